use Rattle.std.proofs.Common.{◌≡◌, ℕ, ◌+◌, ◌<◌, true, eqb, sym, ◌∙◌, subst, inl, inr, ⊎_elim, arith, lt-ltb, eq-eqb, eqb-true}
use borrow.Author.Tests.{both_ways}
use Rattle.std.proofs.lemmas.Bool.{and_parts, and_from, or_cases, or_left, or_right}
use Rattle.columns.specs.declared.column.Column.{Column}
use Rattle.columns.specs.Positions.{has}
use Rattle.rules.specs.Columns.{pairs_in}
use Rattle.ordering.specs.Directly.{Ended}
use Rattle.ordering.proofs.Gathered.{SoFar, gather_yes, gather_no}
use Rattle.ordering.proofs.past.Past.add_handovers.Goals as goal
use Rattle.ordering.proofs.past.Past.add_handovers.Goals.{then-is_handed, else-is_handed}

pub loop-position-preserved : goal.loop-position-preserved
loop-position-preserved g c =
    λ initial agrees ranged.
    let first : ℕ → Type 0 = λ k. has c.insert.new.self k ≡ true in
    let each : ℕ → Type 0 =
    Ended (g.D.Discipline.precedence c.args.self.now.discipline.now) (pairs_in c.args.self.now.columns.now) c.args.self.now.rows.now
    c.args.thread.number c.args.later
    in
    let i = c.loop-position.position in
    let so_far = c.loop-position.invariant initial agrees ranged in
    let is = c.is_handed.ensures initial agrees ranged in
    elim c.if-is_handed.branch [
      | then-is_handed w ↦
          let l : i < 512 = omega (arith, c.loop-position-test.true) in
          subst (λ (x : Column). SoFar first each (has x) (i + 1)) (sym w.column-is)
          (gather_yes first each (has c.loop-position.column) i _ so_far w.insert-then-is_handed.ensures l (is.0 w.if-is_handed.true))
      | else-is_handed w ↦
          subst (λ (x : Column). SoFar first each (has x) (i + 1)) (sym w.column-is)
          (gather_no first each (has c.loop-position.column) i so_far (λ h. both_ways _ w.if-is_handed.false (is.1 h)))
    ]

pub returns : goal.returns
returns g c =
    λ initial agrees ranged i.
    let old = has c.args.column.now i in
    let later = c.args.later in
    let so_far = c.loop-position.invariant initial agrees ranged i in
    let put = c.insert.ensures i in
    let l : later < 512 = omega (arith, agrees.few, c.requires.rows) in (
      λ e.
          ⊎_elim
          (λ f.
          ⊎_elim (λ h. inl h) (λ h. inr (inl (eqb-true _ _ (and_parts (eqb i later) _ h).0)))
          (or_cases old _ (sym put ∙ f)))
          (λ r. inr (inr (omega (arith, r.0, c.loop-position.auto.position-end), r.1)))
          (so_far.0 e),
      λ h.
          so_far.1
          (⊎_elim
          (λ (f : old ≡ true). inl (put ∙ or_left old _ f))
          (⊎_elim
          (λ (q : i ≡ later). inl (put ∙ or_right old _ (and_from _ _ (eq-eqb _ _ q) (lt-ltb _ _ l))))
          (λ r. inr (omega (arith, r.0, c.loop-position-test.false), r.1)))
          h),
    )
