use Rattle.std.proofs.Common.{◌≡◌, ◌+◌, ◌*◌, ◌++◌, take, drop}
use Rattle.files.specs.Files.{records_of}
use Rattle.contents.proofs.writer.write_records.Given as goal

abbrev pub invariant-loop-number : goal.invariant-loop-number
invariant-loop-number l =
    l.buffer
    ≡ take 16 l.initial.buffer ++ (records_of (take l.number l.rows) ++ drop (16 + 12 * l.number) l.initial.buffer)
