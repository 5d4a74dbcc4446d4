-- Predecessor columns: for each held position, what is before it.
use Rattle.std.specs.Prelude.{◌≡◌, ℕ, ◌<◌, true, ◌↔◌, List, length}
use Rattle.recording.specs.declared.row.Row.{Row}
use Rattle.columns.specs.declared.column.Column.{Column}
use Rattle.columns.specs.Positions.{has}
use Rattle.columns.specs.Sweep.{column_at}
use Rattle.happens_before.specs.Order.{Precedence, Pairs, Before}

-- the pairs that the columns hold
abbrev pub pairs_in : List Column → Pairs
pairs_in columns i k = has (column_at columns k) i

-- the column of each held position has just what is before it
abbrev pub Right : Precedence → List Row → List Column → Type 0
Right D held columns = (i k : ℕ) → k < length held → (pairs_in columns i k ≡ true) ↔ Before D held i k
