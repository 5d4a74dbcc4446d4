-- Lawful rows: those that have none of the faults of a record.
use Rattle.std.specs.Prelude.{ℕ, ◌^◌, Bool, cond, not, ◌&&◌, List, [], ◌∷◌, is_some, Option, ◌==◌, nat_le, nat_lt}
use Rattle.recording.specs.declared.row.Row.{Row}
use Rattle.recording.specs.declared.faults.record.RecordFault.{RecordFault}
use Rattle.recording.specs.declared.faults.record.RecordFault.TheVariants.{
  UnknownCode,
  ThreadTooLarge,
  TargetTooLarge,
  TaskTooLarge,
  LockTooLarge,
  ItemNotZero,
  TargetNotZero,
  MarksWrong,
  ReservedNotZero,
  DelayNotZero,
}
use Rattle.recording.specs.Codes.{post, known, has_target, has_task, has_lock, has_item}
use Rattle.recording.specs.Faults.{first}

-- marks are for posts only, and at most 3
abbrev pub marks_limit : ℕ → ℕ
marks_limit code = cond (code == post) 3 0

-- a post marked as delayed
abbrev pub may_delay : Row → Bool
may_delay r = r.code == post && nat_le 2 r.marks

-- by number, then by place; a field that the code lacks counts only as one that must be zero
abbrev pub number_tests : Row → List (Bool × RecordFault)
number_tests r =
    (not (known r.code), UnknownCode)
    ∷ (nat_lt 63 r.thread, ThreadTooLarge)
    ∷ (has_target r.code && nat_lt 63 r.target, TargetTooLarge)
    ∷ (has_task r.code && nat_lt 511 r.item, TaskTooLarge)
    ∷ (has_lock r.code && nat_lt 63 r.item, LockTooLarge)
    ∷ []

abbrev pub zero_tests : Row → List (Bool × RecordFault)
zero_tests r =
    (not (has_item r.code) && not (r.item == 0), ItemNotZero)
    ∷ (not (has_target r.code) && not (r.target == 0), TargetNotZero)
    ∷ (nat_lt (marks_limit r.code) r.marks, MarksWrong)
    ∷ (not (r.reserved == 0), ReservedNotZero)
    ∷ (not (may_delay r) && not (r.delay == 0), DelayNotZero)
    ∷ []

-- the first of two faults
abbrev pub or_else : {F : Type 0} → Option F → Option F → Option F
or_else f g = cond (is_some f) f g

abbrev pub fault_in : Row → Option RecordFault
fault_in r = or_else (first (number_tests r)) (first (zero_tests r))

-- locations have 16 bits and delays 32
abbrev pub lawful : Row → Bool
lawful r = not (is_some (fault_in r)) && (nat_lt r.item (2 ^ 16) && nat_lt r.delay (2 ^ 32))
