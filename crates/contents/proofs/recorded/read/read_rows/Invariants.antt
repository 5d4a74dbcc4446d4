use Rattle.std.proofs.Common.{vec_items}
use Rattle.contents.proofs.ReadRows.{ReadSoFar}
use Rattle.contents.proofs.recorded.read.read_rows.Given as goal

abbrev pub invariant-loop-record : goal.invariant-loop-record
invariant-loop-record l =
    ReadSoFar l.file l.record-iterator.records.now l.record-iterator.number (vec_items l.rows)
