-- Numbers that may be absent.
use Rattle.std.specs.Prelude.{ℕ, Bool, false, Some, None, Option, ◌==◌}

-- it is there, and is n
abbrev pub is_of : Option ℕ → ℕ → Bool
is_of None n = false
is_of (Some m) n = m == n
