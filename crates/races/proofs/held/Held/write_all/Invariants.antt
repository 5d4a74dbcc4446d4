use Rattle.std.proofs.Common.{◌≡◌, ◌++◌, length, drop}
use Rattle.races.specs.Listing.{races_below}
use Rattle.races.proofs.held.Held.write_all.Given as goal

abbrev pub invariant-loop-later : goal.invariant-loop-later
invariant-loop-later l =
    (l.n ≡ length (races_below l.self.rows.now l.self.columns.now l.self.nearests.now l.later))
    × (l.races ≡ races_below l.self.rows.now l.self.columns.now l.self.nearests.now l.later ++ drop l.n l.initial.races)
