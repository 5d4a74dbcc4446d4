-- The mask of initial threads.
use Rattle.std.specs.Prelude.{ℕ, ◌/◌, ◌%◌, ◌^◌, Bool, ◌==◌}

-- bit n of a mask: thread n is initial
abbrev pub bit : ℕ → ℕ → Bool
bit mask n = mask / 2 ^ n % 2 == 1
