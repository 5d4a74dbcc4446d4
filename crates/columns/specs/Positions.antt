-- Sets of positions, and the set that a column holds.
use Rattle.std.specs.Prelude.{◌≡◌, ℕ, zero, suc, ◌+◌, ◌/◌, ◌%◌, ◌^◌, ◌<◌, ◌≤◌, Bool, true, false, cond, not, ◌&&◌, ◌||◌, ◌==◌, nat_lt, slice_index}
use Rattle.columns.specs.declared.column.Column.{Column}

-- bit k of a word
abbrev pub bit : ℕ → ℕ → Bool
bit word k = word / 2 ^ k % 2 == 1

-- position k is in the column; none from 512 on is
unfoldable pub has : Column → ℕ → Bool
has column k = nat_lt k 512 && bit (slice_index column.words (k / 64)) (k % 64)

-- the column has the positions of the set and no other
abbrev pub Holds : Column → (ℕ → Bool) → Type 0
Holds column p = (k : ℕ) → has column k ≡ p k

abbrev pub none : ℕ → Bool
none k = false

-- p, and i if a column has room for it
abbrev pub with_position : (ℕ → Bool) → ℕ → ℕ → Bool
with_position p i k = p k || (k == i && nat_lt i 512)

abbrev pub union : (ℕ → Bool) → (ℕ → Bool) → ℕ → Bool
union p q k = p k || q k

-- what p has and q lacks
abbrev pub except : (ℕ → Bool) → (ℕ → Bool) → ℕ → Bool
except p q k = p k && not (q k)

-- some position is in both
abbrev pub Meet : (ℕ → Bool) → (ℕ → Bool) → Type 0
Meet p q = (k : ℕ) × (p k ≡ true) × (q k ≡ true)

-- how many numbers below n are in p
unfoldable pub tally : (ℕ → Bool) → ℕ → ℕ
tally p zero = 0
tally p (suc n) = tally p n + cond (p n) 1 0

-- no number from `from` on and below `end` is in p
abbrev pub Lacks : (ℕ → Bool) → ℕ → ℕ → Type 0
Lacks p from end = (k : ℕ) → from ≤ k → k < end → p k ≡ false

-- k is the highest number below `end` that is in p
abbrev pub LastBelow : (ℕ → Bool) → ℕ → ℕ → Type 0
LastBelow p end k = (k < end) × (p k ≡ true) × Lacks p (suc k) end
