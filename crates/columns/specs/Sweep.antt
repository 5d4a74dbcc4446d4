-- The descending pass that closes a new column over the columns of the earlier positions.
use Rattle.std.specs.Prelude.{ℕ, zero, suc, Bool, not, ◌&&◌, ◌||◌, List, [], slice_index_or}
use Rattle.columns.specs.declared.column.Column.{Column}
use Rattle.columns.specs.Positions.{has}

-- the column of position k; past the end an empty one
abbrev pub column_at : List Column → ℕ → Column
column_at cs k = slice_index_or cs k (record { words = [] })

-- where p has k, the column of k is taken in, whole where own has k, else without what own has
abbrev pub joined : List Column → (ℕ → Bool) → ℕ → (ℕ → Bool) → ℕ → Bool
joined cs own k p i = p i || (p k && (has (column_at cs k) i && (own k || not (own i))))

-- so for each position below n, from the highest down
abbrev pub swept : List Column → (ℕ → Bool) → ℕ → (ℕ → Bool) → ℕ → Bool
swept cs own zero p = p
swept cs own (suc k) p = swept cs own k (joined cs own k p)
