use Rattle.std.proofs.Common.{◌+◌, arith, subst}
use Rattle.script.specs.Readings.{TakesOr}
use Rattle.script.proofs.SoFar.{taken_more, stopped, all_read}
use Rattle.script.proofs.read.Script.read.Goals as goal

pub returns-in-Err : goal.returns-in-Err
returns-in-Err c =
    let t = c.take.new.self in
    let long = t.steps.ok.0 in
    let line = c.in-Some.ensures.steps in
    stopped c.args.lines.rest.now c.loop-line.line-iterator.rest.now c.in-Some.line.now c.next.new.self.rest.now
    line.0 line.1 c.loop-line.script t c.read_line.result c.in-Err.fault (c.len-number.result + 2)
    c.read_line.ensures
    (subst (λ r. TakesOr c.loop-line.script c.read_line.result r t) c.in-Err.is c.in_ok-fault.ensures)
    (omega (arith, c.len-number.ensures, long)) c.loop-line.invariant.1

pub loop-line-preserved : goal.loop-line-preserved
loop-line-preserved c =
    let line = c.in-Some.ensures.steps in
    taken_more c.args.lines.rest.now c.loop-line.line-iterator.rest.now c.in-Some.line.now c.next.new.self.rest.now
    line.0 line.1 c.loop-line.script c.take.new.self c.read_line.result c.read_line.ensures
    (subst (λ r. TakesOr c.loop-line.script c.read_line.result r c.take.new.self) c.in_default.is c.in_ok-fault.ensures) c.loop-line.invariant.0 c.loop-line.invariant.1

pub returns : goal.returns
returns c =
    all_read c.args.lines.rest.now c.loop-line.line-iterator.rest.now c.loop-line.script c.in-None.ensures.steps.0
    c.loop-line.invariant.0 c.loop-line.invariant.1
