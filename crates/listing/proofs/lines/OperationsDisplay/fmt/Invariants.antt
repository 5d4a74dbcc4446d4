use Rattle.std.proofs.Common.{take, vec_items}
use Rattle.std.specs.Fmt.{HasWritten, IsPlainFormatter}
use Rattle.listing.specs.Listings.{operation_lines}
use Rattle.listing.proofs.lines.OperationsDisplay.fmt.Given as goal

abbrev pub invariant-loop-number : goal.invariant-loop-number
invariant-loop-number g l =
    IsPlainFormatter l.initial.f
    → HasWritten g.W.Write.write_str_gives l.initial.f (operation_lines 0 (take l.number-counter (vec_items l.self.0.now.rows))) l.f
