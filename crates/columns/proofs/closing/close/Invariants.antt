use Rattle.std.proofs.Common.{◌≡◌, ◌≤◌, length}
use Rattle.columns.specs.Positions.{has}
use Rattle.columns.specs.Sweep.{swept}
use Rattle.columns.proofs.closing.close.Given as goal

-- the positions left to pass make the same of the column as all of them made of the first
abbrev pub invariant-loop-k : goal.invariant-loop-k
invariant-loop-k l =
    (l.end ≤ length l.columns)
    × (swept l.columns (has l.own) l.end (has l.column)
    ≡ swept l.columns (has l.own) (length l.columns) (has l.initial.column))

abbrev pub decreases-loop-k : goal.decreases-loop-k
decreases-loop-k l = l.end
