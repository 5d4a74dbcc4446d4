-- Numbers in bytes, low byte first.
use Rattle.std.specs.Prelude.{ℕ, zero, suc, ◌+◌, ◌*◌, ◌/◌, ◌%◌, List, [], ◌∷◌, slice_index}

-- the lowest k bytes of n
abbrev pub bytes_of : ℕ → ℕ → List ℕ
bytes_of zero n = []
bytes_of (suc k) n = (n % 256) ∷ bytes_of k (n / 256)

-- the number in the k bytes from place p on
abbrev pub number_at : ℕ → ℕ → List ℕ → ℕ
number_at zero p b = 0
number_at (suc k) p b = slice_index b p + 256 * number_at k (suc p) b
