use Rattle.std.proofs.Common.{arith}
use Rattle.columns.proofs.Has.{has_past}
use Rattle.columns.proofs.Lasts.{word_lacks, zeros_fit, word_last}
use Rattle.columns.proofs.column.Column.last_below.Goals as goal

pub loop-top-init : goal.loop-top-init
loop-top-init c = (omega arith, omega arith, λ k a l. has_past c.args.self.now k (omega arith))

pub overflow_sub-result : goal.overflow_sub-result
overflow_sub-result c =
    let fit = zeros_fit c.args.self.now c.loop-top.top c.args.end c.loop-top-test.true c.loop-top.invariant c.if-word-ne0.true in
    omega arith

pub returns-then-word-ne0 : goal.returns-then-word-ne0
returns-then-word-ne0 c =
    word_last c.args.self.now c.loop-top.top c.args.end c.loop-top-test.true
    c.loop-top.invariant c.if-word-ne0.true

pub loop-top-preserved : goal.loop-top-preserved
loop-top-preserved c = (
  omega arith,
  omega arith,
  word_lacks c.args.self.now c.loop-top.top c.args.end c.loop-top-test.true
      c.loop-top.invariant c.if-word-ne0.false,
)
