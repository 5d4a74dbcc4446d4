use Rattle.std.proofs.Common.{◌≡◌, ◌≤◌, [], ◌++◌, map, length, vec_items, vec_capacity}
use Rattle.rules.specs.Runs.{Run}
use Rattle.examination.specs.Holding.{held}
use Rattle.runs.specs.Calls.{call_of, answer_of}
use Rattle.rules.specs.Acceptance.{opened}
use Rattle.runs.proofs.run.run.Given as goal

-- the calls so far made a run, and there is room for the answers of the others
abbrev pub invariant-loop-call : goal.invariant-loop-call
invariant-loop-call g l =
    Run
    (opened (g.D.Discipline.admission l.initial.examination.discipline)
    (g.D.Discipline.precedence l.initial.examination.discipline) l.mask)
    []
    (map call_of l.yielded)
    (map answer_of (vec_items l.answers))
    (held l.examination)
    × (l.examination.mask ≡ l.mask)
    × (l.examination.discipline ≡ l.initial.examination.discipline)
    × (l.yielded ++ l.call-iterator.rest.items ≡ l.initial.call-iterator.rest.items)
    × (length (vec_items l.answers) ≡ length l.yielded)
    × (length l.initial.call-iterator.rest.items ≤ vec_capacity l.answers)
