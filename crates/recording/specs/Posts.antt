-- The marks of a post, as numbers of its row: 1 environment, 2 delayed, 3 both.
use Rattle.std.specs.Prelude.{ℕ, ◌+◌, ◌%◌, cond, is_some, Some, None, ◌==◌, nat_le}
use Rattle.std.specs.Option.{unwrap_or}
use Rattle.recording.specs.declared.marks.Marks.{Marks}
use Rattle.recording.specs.declared.row.Row.{Row}

abbrev pub marks_in : Row → Marks
marks_in r =
    record { environment = (r.marks % 2 == 1); delay = cond (nat_le 2 r.marks) (Some r.delay) None }

abbrev pub marks_number : Marks → ℕ
marks_number m = cond m.environment 1 0 + cond (is_some m.delay) 2 0

abbrev pub delay_number : Marks → ℕ
delay_number m = unwrap_or m.delay 0
