use Rattle.worked.proofs.Worked.{recordings_stand}
use Rattle.worked.proofs.recordings_stand.Goals as goal

pub returns : goal.returns
returns c = recordings_stand
