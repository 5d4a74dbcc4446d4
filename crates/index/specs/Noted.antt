-- One position added to columns that are told apart by a key.
use Rattle.std.specs.Prelude.{◌≡◌, ℕ, ◌<◌, Bool, ◌&&◌, ◌||◌, ◌==◌}
use Rattle.recording.specs.declared.row.Row.{Row}
use Rattle.columns.specs.declared.column.Column.{Column}
use Rattle.columns.specs.Positions.{has}

-- the column of each key
abbrev pub Columns : Type 0
Columns = ℕ → Column

-- the columns whose key passes have the position too
abbrev pub AddsIf : ℕ → (ℕ → Bool) → ℕ → Columns → Columns → Type 0
AddsIf size P position before after =
    (k i : ℕ) → k < size → position < 512 → has (after k) i ≡ (has (before k) i || (P k && i == position))

-- so by the operation
abbrev pub Notes : ℕ → (ℕ → Row → Bool) → Row → ℕ → Columns → Columns → Type 0
Notes size P o position before after = AddsIf size (λ k. P k o) position before after

-- each column is the same
abbrev pub Unchanged : ℕ → Columns → Columns → Type 0
Unchanged size before after = (k : ℕ) → k < size → after k ≡ before k

-- no column has another position than before
abbrev pub SameColumns : ℕ → Columns → Columns → Type 0
SameColumns size before after = (k i : ℕ) → k < size → has (after k) i ≡ has (before k) i
