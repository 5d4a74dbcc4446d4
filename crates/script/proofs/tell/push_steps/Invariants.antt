use Rattle.std.proofs.Common.{◌≡◌, ◌++◌, map, drop, string_bytes}
use Rattle.runs.specs.Calls.{answer_of}
use Rattle.script.specs.Readings.{step_lines}
use Rattle.script.proofs.tell.push_steps.Given as goal

-- what is written, with the lines of the other steps, makes the whole
abbrev pub invariant-loop-step : goal.invariant-loop-step
invariant-loop-step l =
    string_bytes l.text ++ step_lines (drop l.step-index l.steps) (map answer_of l.answers.rest.now)
    ≡ string_bytes l.initial.text ++ step_lines l.steps (map answer_of l.fn.answers)
