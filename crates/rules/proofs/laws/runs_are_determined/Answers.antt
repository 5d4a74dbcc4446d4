use Rattle.rules.proofs.Determined.{run_one}
use Rattle.rules.proofs.laws.runs_are_determined.Goals as goal

pub returns : goal.returns
returns c s held calls answers answers' left left' = run_one s
