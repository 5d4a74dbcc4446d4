use Rattle.std.proofs.Common.{◌≡◌, ◌++◌, map, length, take, drop}
use Rattle.tables.specs.Steps.{freed}
use Rattle.tables.proofs.locks.free_all.Given as goal

-- the holders so far are freed
abbrev pub invariant-loop-holder : goal.invariant-loop-holder
invariant-loop-holder l =
    (length l.holders ≡ length l.initial.holders)
    × (l.holders
    ≡ map (freed l.thread) (take l.holder-index l.initial.holders) ++ drop l.holder-index l.initial.holders)
