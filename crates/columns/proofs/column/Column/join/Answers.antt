use Rattle.std.proofs.Common.{rules}
use Rattle.columns.proofs.Words.{join_holds}
use Rattle.columns.proofs.column.Column.join.Goals as goal

pub returns : goal.returns
returns c = join_holds c.args.self.now.words c.args.other.now.words (search rules) (search rules)
