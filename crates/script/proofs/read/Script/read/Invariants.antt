use Rattle.std.proofs.Common.{◌≡◌, None}
use Rattle.script.specs.Readings.{steps_of, calls_of}
use Rattle.script.proofs.SoFar.{SoFar}
use Rattle.script.proofs.read.Script.read.Given as goal

abbrev pub invariant-loop-line : goal.invariant-loop-line
invariant-loop-line l =
    (l.script.stop ≡ None)
    × SoFar l.fn.lines.rest.now l.line-iterator.rest.now l.script.left (steps_of l.script) (calls_of l.script)
