use Rattle.std.proofs.Common.{◌≡◌, ℕ, ltb, None, sym, ◌∙◌, subst, inl, inr, ⊎_elim, lt-ltb}
use Rattle.std.proofs.lemmas.Bool.{cond-true}
use Rattle.happens_before.specs.Trace.{Posts}
use Rattle.tables.specs.Records.{task_at}
use Rattle.rules.specs.Columns.{pairs_in}
use Rattle.ordering.specs.Directly.{Handed}
use Rattle.ordering.proofs.Postings.{posted_at_lem, posted_there}
use Rattle.ordering.proofs.past.Past.add_begin.Goals as goal

pub returns-then-later-self : goal.returns-then-later-self
returns-then-later-self g c =
    λ initial agrees ranged i.
    let rows = c.args.self.now.rows.now in
    let n = c.number.result in
    let same : n ≡ c.args.task.number = c.number.ensures.0 in
    let x = c.in-Some.posting in
    let is = (agrees.matches.tasks_match n c.number.ensures.1).position_is in
    let record_is = cond-true (ltb n 512) (task_at c.args.self.now.tables.now.tasks n).posting None (lt-ltb n 512 c.number.ensures.1) in
    let found = sym (c.in-Some.ensures ∙ record_is) in
    let adds = c.add_handovers.ensures initial agrees ranged i in
    let handed : ℕ → Type 0 =
    λ b.
    Handed (g.D.Discipline.precedence c.args.self.now.discipline.now) (pairs_in c.args.self.now.columns.now) rows
    c.args.thread.number b i
    in (
      λ e.
          ⊎_elim inl (λ h. inr (x.position, subst (Posts rows x.position) same (posted_at_lem rows n _ is x found).1, h)) (adds.0 e),
      λ h.
          adds.1
          (⊎_elim inl
          (λ r.
          let at = posted_there rows n _ is x found r.0 (subst (Posts rows r.0) (sym same) r.1) in
          inr (subst handed (sym at) r.2))
          h),
    )
