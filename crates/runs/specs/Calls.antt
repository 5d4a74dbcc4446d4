-- The calls and answers of a run, as the law of whole runs names them.
use Rattle.std.specs.Prelude.{vec_items}
use Rattle.recording.specs.Rows.{operation_row}
use Rattle.rules.specs.Numbers.{state_number, class_number, not_held}
use Rattle.rules.specs.Runs as named
use Rattle.runs.specs.declared.calls.Call.{Call}
use Rattle.runs.specs.declared.calls.Call.TheVariants as call
use Rattle.runs.specs.declared.calls.Answer.{Answer}
use Rattle.runs.specs.declared.calls.Answer.TheVariants as answer

abbrev pub call_of : Call → named.Call
call_of (call.Add o) = named.add (operation_row o)
call_of (call.Cut n) = named.cut n
call_of (call.Order i j) = named.order i j
call_of (call.Class i j) = named.class i j
call_of (call.List places) = named.list (vec_items places)

-- each refusal by its number
abbrev pub answer_of : Answer → named.Answer
answer_of (answer.Added a) = named.added a.position a.before
answer_of (answer.Refused f) = named.refused (state_number f)
answer_of (answer.Cut n) = named.cut_to n
answer_of (answer.Ordered w) = named.ordered w
answer_of (answer.Classed c) = named.classed (class_number c)
answer_of answer.NotHeld = named.refused not_held
answer_of (answer.Listed n places) = named.listed n (vec_items places)
answer_of (answer.Needs n places) = named.needs n (vec_items places)
