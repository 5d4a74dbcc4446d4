use Rattle.std.proofs.Common.{◌≡◌, ◌≤◌, length}
use Rattle.races.specs.Listing.{gathered, race_of}
use Rattle.races.proofs.held.Held.count_of.Given as goal

abbrev pub invariant-loop-earlier : goal.invariant-loop-earlier
invariant-loop-earlier l =
    (l.n ≡ length (gathered (race_of l.self.rows.now l.self.columns.now l.self.nearests.now l.position) l.earlier))
    × (l.n ≤ l.earlier)
