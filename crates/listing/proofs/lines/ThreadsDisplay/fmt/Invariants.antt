use Rattle.std.specs.Fmt.{HasWritten, IsPlainFormatter}
use Rattle.listing.specs.Listings.{threads_below}
use Rattle.listing.proofs.lines.ThreadsDisplay.fmt.Given as goal

abbrev pub invariant-loop-thread : goal.invariant-loop-thread
invariant-loop-thread g l =
    IsPlainFormatter l.initial.f → HasWritten g.W.Write.write_str_gives l.initial.f (threads_below l.self.0 l.thread-counter) l.f
