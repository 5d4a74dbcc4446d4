use Rattle.std.proofs.Common.{◌≡◌, ℕ, ◌<◌, get_or}
use lib.Bits.{bit_and}
use Rattle.columns.proofs.column.Column.meets.Given as goal

-- no word before w has a shared bit
abbrev pub invariant-loop-w : goal.invariant-loop-w
invariant-loop-w l = (v : ℕ) → v < l.w → bit_and (get_or l.self.words v 0) (get_or l.other.words v 0) ≡ 0
