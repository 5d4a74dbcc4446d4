use Rattle.std.proofs.Common.{◌≤◌, length, take}
use Rattle.recording.specs.Masks.{bit}
use Rattle.rules.specs.Fair.{FairTables}
use Rattle.examination.specs.Follows.{Follows}
use Rattle.examination.proofs.state.State.rebuild.Given as goal

abbrev pub invariant-loop-position : goal.invariant-loop-position
invariant-loop-position l =
    FairTables (bit l.mask) l.rows → length l.rows ≤ 512 → Follows (bit l.mask) (take l.position l.rows) l.state
