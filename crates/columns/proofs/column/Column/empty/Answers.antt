use Rattle.columns.proofs.Words.{empty_holds}
use Rattle.columns.proofs.column.Column.empty.Goals as goal

pub returns : goal.returns
returns c = empty_holds
