use Rattle.happens_before.proofs.Extended.{agree_extended}
use Rattle.happens_before.proofs.Races.{same_below}
use Rattle.happens_before.proofs.additions_change_nothing_earlier.Goals as goal

pub returns : goal.returns
returns c D trace more first = same_below D (agree_extended trace more first)
