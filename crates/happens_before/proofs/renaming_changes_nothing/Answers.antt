use Rattle.happens_before.proofs.Agree.{agree_sym}
use Rattle.happens_before.proofs.Renamed.{agree_renamed}
use Rattle.happens_before.proofs.Races.{same_below}
use Rattle.happens_before.proofs.renaming_changes_nothing.Goals as goal

pub returns : goal.returns
returns c D m trace first ranged = same_below D (agree_sym (agree_renamed m trace ranged first))
