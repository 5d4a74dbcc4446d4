use Rattle.std.proofs.Common.{◌≡◌, ℕ, ◌<◌, eqb, ltb, sym, ap, ◌∙◌, subst, arith, eqb-true}
use Rattle.std.proofs.lemmas.Bool.{and_parts}
use Rattle.recording.specs.Codes.{end, has_task}
use Rattle.happens_before.specs.Trace.{code, item}
use Rattle.rules.specs.Columns.{pairs_in}
use Rattle.ordering.specs.Directly.{Hands}
use Rattle.ordering.proofs.past.Past.is_handed.Goals as goal

pub returns-then-contains : goal.returns-then-contains
returns-then-contains g c =
    λ initial agrees ranged.
    let rows = c.args.self.now.rows.now in
    let i = c.args.position in
    let is = sym (c.ends.ensures rows agrees.indexed i) ∙ (sym c.contains.ensures ∙ c.if-contains.true) in
    let (_, done) = and_parts (ltb i _) _ is in
    let (e, t) = and_parts (eqb (code rows i) end) _ done in
    let at : c.args.end.item ≡ item rows i = ap (λ r. r.item) c.requires.held.1 in
    let small : item rows i < 512 = (ranged i c.requires.held.0).2 (ap has_task (eqb-true _ _ e)) in
    let hands = c.hands_over.ensures initial agrees (omega arith) in
    let handed : ℕ → Type 0 = λ p. Hands (g.D.Discipline.precedence c.args.self.now.discipline.now) (pairs_in c.args.self.now.columns.now) rows p c.args.later in
    (λ h. (eqb-true _ _ e, eqb-true _ _ t, subst handed at (hands.0 h)), λ h. hands.1 (subst handed (sym at) h.2))
