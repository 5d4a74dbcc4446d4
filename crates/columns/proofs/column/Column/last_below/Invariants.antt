use Rattle.std.proofs.Common.{◌≤◌}
use Rattle.columns.specs.Positions.{has, Lacks}
use Rattle.columns.proofs.column.Column.last_below.Given as goal

-- nothing from top on is below end and in the column
abbrev pub invariant-loop-top : goal.invariant-loop-top
invariant-loop-top l = (l.top ≤ l.end) × (l.top ≤ 512) × Lacks (has l.self) l.top l.end

abbrev pub decreases-loop-top : goal.decreases-loop-top
decreases-loop-top l = l.top
