use Rattle.std.proofs.Common.{◌≡◌, ℕ, true, ◌↔◌, [], ◌∷◌, ◌++◌, length, None, sym, subst, subst₂}
use Rattle.recording.specs.Masks.{bit}
use Rattle.columns.specs.Positions.{has}
use Rattle.happens_before.specs.Order.{Before}
use Rattle.rules.specs.Acceptance.{refusal}
use Rattle.examination.specs.Holding.{setting_of}
use Rattle.examination.proofs.Accepted.{fair_after, idle}
use Rattle.examination.proofs.examination.Examination.column_of.Goals as goal

pub returns : goal.returns
returns g c =
    let e = c.args.self.now in
    let o = c.args.operation.row in
    let s = setting_of g.D.Discipline.admission g.D.Discipline.precedence e in
    let past = c.past-past.ensures in
    let rows = c.past-past.result.rows.now in
    let none = subst (λ h. refusal s h o ≡ None) (sym past.rows_are) c.requires in
    subst₂
    (λ d h. (i : ℕ) → (has c.predecessors.result i ≡ true) ↔ Before (g.D.Discipline.precedence d) (h ++ o ∷ []) i (length h))
    past.discipline_is past.rows_are
    (c.predecessors.ensures.before (bit e.mask) past.agrees (fair_after s rows o none c.args.operation.lawful past.fair)
    past.column_each past.right (c.task_of.ensures.member (bit e.mask) rows past.agrees.matches (idle s rows o none)))
