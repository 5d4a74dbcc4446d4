use Rattle.std.proofs.Common.{sym, ◌∙◌, arith}
use Rattle.std.proofs.lemmas.Bool.{le-ltb}
use Rattle.columns.proofs.Has.{has_bit, has_past}
use Rattle.columns.proofs.column.Column.contains.Goals as goal

pub returns-then-i-lt-POSITIONS : goal.returns-then-i-lt-POSITIONS
returns-then-i-lt-POSITIONS c = sym (has_bit c.args.self.now c.args.i (omega arith))

pub returns-else-i-lt-POSITIONS : goal.returns-else-i-lt-POSITIONS
returns-else-i-lt-POSITIONS c =
    le-ltb c.args.i 512 c.if-i-lt-POSITIONS.false ∙ sym (has_past c.args.self.now c.args.i c.if-i-lt-POSITIONS.false)
