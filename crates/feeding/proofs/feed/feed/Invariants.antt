use Rattle.std.proofs.Common.{◌≡◌, ◌++◌, drop}
use Rattle.examination.specs.Holding.{held, setting_of, SameSetting, FairlyHeld}
use Rattle.feeding.specs.Feeding.{Taken, rows_of}
use Rattle.feeding.proofs.feed.feed.Given as goal

-- the records so far are taken
abbrev pub invariant-loop-record : goal.invariant-loop-record
invariant-loop-record g l =
    (l.record-iterator.records.now ≡ drop 16 l.file)
    × (held l.examination ≡ held l.initial.examination ++ rows_of l.file l.record-iterator.number)
    × Taken
    (setting_of g.D.Discipline.admission g.D.Discipline.precedence l.initial.examination)
    l.file
    (held l.initial.examination)
    l.record-iterator.number
    × (FairlyHeld l.initial.examination → FairlyHeld l.examination)
    × SameSetting l.initial.examination l.examination
