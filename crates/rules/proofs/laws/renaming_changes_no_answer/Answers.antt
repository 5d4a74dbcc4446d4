use Rattle.rules.proofs.RenamedRuns.{renamed_runs}
use Rattle.rules.proofs.laws.renaming_changes_no_answer.Goals as goal

pub returns : goal.returns
returns c = renamed_runs
