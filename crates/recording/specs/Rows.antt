-- The row of an operation, and of an action: a field that the code lacks is zero.
use Rattle.std.specs.Prelude.{ℕ, List, slice_index_or}
use Rattle.recording.specs.declared.action.Action.{Action}
use Rattle.recording.specs.declared.action.Action.TheVariants.{
  ThreadInit,
  ThreadExit,
  Fork,
  Join,
  AttachQ,
  LoopOnQ,
  Post,
  Begin,
  End,
  Acquire,
  Release,
  Enable,
  Read,
  Write,
}
use Rattle.recording.specs.declared.operation.Operation.{Operation}
use Rattle.recording.specs.declared.row.Row.{Row}
use Rattle.recording.specs.Codes.{
  threadinit,
  threadexit,
  fork,
  join,
  attach_q,
  loop_on_q,
  post,
  begin,
  end,
  acquire,
  release,
  enable,
  read,
  write,
}
use Rattle.recording.specs.Posts.{marks_number, delay_number}

abbrev pub operation_row : Operation → Row
operation_row o = o.row

abbrev pub plain : ℕ → ℕ → ℕ → ℕ → Row
plain code thread item target =
    record { code = code; thread = thread; item = item; target = target; marks = 0; reserved = 0; delay = 0 }

-- what stands past the end of a list: no operation
abbrev pub blank : Row
blank = plain 0 0 0 0

abbrev pub row_at : List Row → ℕ → Row
row_at rows k = slice_index_or rows k blank

abbrev pub row_of : ℕ → Action → Row
row_of t ThreadInit = plain threadinit t 0 0
row_of t ThreadExit = plain threadexit t 0 0
row_of t (Fork u) = plain fork t 0 u.number
row_of t (Join u) = plain join t 0 u.number
row_of t AttachQ = plain attach_q t 0 0
row_of t LoopOnQ = plain loop_on_q t 0 0
row_of t (Post p u m) =
    record {
      code = post;
      thread = t;
      item = p.number;
      target = u.number;
      marks = marks_number m;
      reserved = 0;
      delay = delay_number m;
    }
row_of t (Begin p) = plain begin t p.number 0
row_of t (End p) = plain end t p.number 0
row_of t (Acquire k) = plain acquire t k.number 0
row_of t (Release k) = plain release t k.number 0
row_of t (Enable p) = plain enable t p.number 0
row_of t (Read x) = plain read t x.number 0
row_of t (Write x) = plain write t x.number 0
