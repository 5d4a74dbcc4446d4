use Rattle.std.proofs.Common.{◌≡◌, ◌+◌, ◌++◌, length, take, drop}
use Rattle.races.specs.Listing.{gathered, race_of}
use Rattle.races.proofs.held.Held.write_of.Given as goal

abbrev pub invariant-loop-earlier : goal.invariant-loop-earlier
invariant-loop-earlier l =
    (l.n ≡ l.from + length (gathered (race_of l.self.rows.now l.self.columns.now l.self.nearests.now l.later) l.earlier))
    × (l.races
    ≡ (take l.from l.initial.races ++ gathered (race_of l.self.rows.now l.self.columns.now l.self.nearests.now l.later) l.earlier)
    ++ drop l.n l.initial.races)
