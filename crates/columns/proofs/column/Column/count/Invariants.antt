use Rattle.std.proofs.Common.{◌≡◌, ◌*◌}
use Rattle.columns.specs.Positions.{has, tally}
use Rattle.columns.proofs.column.Column.count.Given as goal

-- the words so far are counted
abbrev pub invariant-loop-word : goal.invariant-loop-word
invariant-loop-word l = l.n ≡ tally (has l.self) (64 * l.word-index)
