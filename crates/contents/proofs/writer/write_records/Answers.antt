use Rattle.std.proofs.Common.{refl}
use Rattle.contents.proofs.WrittenRecords.{one_more}
use Rattle.contents.proofs.writer.write_records.Goals as goal

pub loop-number-preserved : goal.loop-number-preserved
loop-number-preserved c =
    let l = c.loop-number in
    one_more c.args.rows.now c.args.buffer.now c.requires l.number _ l.buffer _ _ c.loop-number-test.true refl
    l.invariant c.to_bytes.ensures c.put.ensures
