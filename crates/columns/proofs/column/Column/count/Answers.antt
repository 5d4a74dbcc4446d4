use Rattle.std.proofs.Common.{◌+◌, ◌*◌, arith}
use Rattle.columns.specs.Positions.{has}
use Rattle.columns.proofs.Counts.{counted, tally_none, tally_le}
use Rattle.columns.proofs.column.Column.count.Goals as goal

pub loop-word-init : goal.loop-word-init
loop-word-init c = tally_none _

pub loop-word-preserved : goal.loop-word-preserved
loop-word-preserved c =
    counted c.args.self.now c.loop-word.word-index c.loop-word.n c.loop-word-test.true
    c.loop-word-test.element_fits.fits c.loop-word.invariant

pub overflow_add-n : goal.overflow_add-n
overflow_add-n c =
    let e = loop-word-preserved c in
    let small = tally_le (has c.args.self.now) (64 * (c.loop-word.word-index + 1)) in
    record { fits = omega arith }
