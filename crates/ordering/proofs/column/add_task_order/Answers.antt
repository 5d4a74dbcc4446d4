use Rattle.std.proofs.Common.{◌≡◌, true, ltb, length, take, sym, refl, ap, ◌∙◌, inl, inr, ⊎_elim, ltb-true, lt-ltb, eq-eqb, eqb-true}
use Rattle.std.proofs.lemmas.Bool.{and_parts, and_from, or_cases, or_left, or_right}
use Rattle.columns.specs.Positions.{has}
use Rattle.happens_before.specs.Trace.{row}
use Rattle.rules.specs.Options.{is_of}
use Rattle.index.specs.Indexed.{member_at}
use Rattle.ordering.proofs.column.add_task_order.Goals as goal

pub returns-in-Some : goal.returns-in-Some
returns-in-Some c =
    λ held indexed small i.
    let p = c.in-Some.task in
    let is : is_of c.args.task p ≡ true = ap (λ q. is_of q p) c.in-Some.is ∙ eq-eqb p p refl in
    let old = has c.args.column.now i in
    let adds = c.add_members.ensures.added held indexed (small p is) i in (
      λ e.
          ⊎_elim inl
          (λ h. let (l, m) = and_parts (ltb i (length held)) _ h in inr (ltb-true _ _ l, (p, is, m)))
          (or_cases old _ (sym adds ∙ e)),
      ⊎_elim (λ (h : old ≡ true). adds ∙ or_left old _ h)
          (λ h.
          let r = h.1 in
          let q : p ≡ r.0 = eqb-true p r.0 (sym (ap (λ x. is_of x r.0) c.in-Some.is) ∙ r.1) in
          adds ∙ or_right old _ (and_from _ _ (lt-ltb _ _ h.0) (ap (λ x. member_at (take i held) x (row held i)) q ∙ r.2))),
    )
