use Rattle.happens_before.proofs.Least.{least}
use Rattle.happens_before.proofs.least_ordering_exists.Goals as goal

pub returns : goal.returns
returns c = least
