use Rattle.std.proofs.Common.{arith, rules}
use Rattle.columns.proofs.Words.{insert_holds}
use Rattle.columns.proofs.column.Column.insert.Goals as goal

pub returns-then-i-lt-POSITIONS : goal.returns-then-i-lt-POSITIONS
returns-then-i-lt-POSITIONS c = insert_holds c.args.self.now.words c.args.i (search rules) (omega arith)
