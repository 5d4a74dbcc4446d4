use Rattle.std.proofs.Common.{rules}
use Rattle.columns.proofs.Words.{join_except_holds}
use Rattle.columns.proofs.column.Column.join_except.Goals as goal

pub returns : goal.returns
returns c =
    join_except_holds c.args.self.now.words c.args.other.now.words c.args.hidden.now.words
    (search rules) (search rules) (search rules)
