use Rattle.std.proofs.Common.{◌≡◌, ◌<◌, true, ◌↔◌, length, sym, ◌∙◌, subst}
use Rattle.happens_before.specs.Order.{Before}
use Rattle.examination.proofs.examination.Examination.is_before.Goals as goal

pub returns : goal.returns
returns g c =
    let x = c.races.ensures in
    let l : c.args.later < length c.races.result.rows.now = subst (λ h. c.args.later < length h) (sym x.rows_are) c.requires in
    let r = x.right c.args.earlier c.args.later l in
    subst
    (λ h. (c.is_before.result ≡ true) ↔ Before (g.D.Discipline.precedence c.args.self.now.discipline) h c.args.earlier c.args.later)
    x.rows_are (λ t. r.0 (sym c.is_before.ensures ∙ t), λ b. c.is_before.ensures ∙ r.1 b)
