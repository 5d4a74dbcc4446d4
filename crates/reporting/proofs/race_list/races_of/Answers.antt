use Rattle.std.proofs.Common.{subst}
use Rattle.examination.specs.Holding.{held}
use Rattle.reporting.specs.Lists.{Lists}
use Rattle.reporting.proofs.Written.{enough}
use Rattle.reporting.proofs.race_list.races_of.Goals as goal

pub unwrap-requires : goal.unwrap-requires
unwrap-requires g c =
    let e = c.args.examination.now in
    let D = g.D.Discipline.precedence e.discipline in
    enough D (held e) _ c.in-Err.short _ (subst (Lists D (held e) _) c.in-Err.is c.in_ok-races.ensures.listed)
    c.in_ok-list_in-in-Err.ensures.listed
