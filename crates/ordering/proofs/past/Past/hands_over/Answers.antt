use Rattle.std.proofs.Common.{inl, inr, ⊎_elim}
use borrow.Author.Tests.{both_ways}
use Rattle.ordering.proofs.past.Past.hands_over.Goals as goal

pub returns-then-reaches : goal.returns-then-reaches
returns-then-reaches g c =
    λ initial agrees small.
    (λ e. inr ((c.reaches.ensures.met c.args.self.now.rows.now agrees.indexed small).0 e), λ _. c.if-reaches.true)

pub returns-else-reaches : goal.returns-else-reaches
returns-else-reaches g c =
    λ initial agrees small.
    let queued = c.is_queued.ensures initial agrees.matches small in
    let ran = c.reaches.ensures.met c.args.self.now.rows.now agrees.indexed small in (
      λ e. inl (queued.0 e),
      λ h. ⊎_elim (λ q. queued.1 q) (λ r. absurd (both_ways _ c.if-reaches.false (ran.1 r))) h,
    )
