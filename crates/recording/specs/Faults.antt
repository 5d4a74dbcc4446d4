-- The number and the place of each fault of a record.
use Rattle.std.specs.Prelude.{ℕ, Bool, cond, List, [], ◌∷◌, Some, None, Option}
use Rattle.recording.specs.declared.faults.record.RecordFault.{RecordFault}
use Rattle.recording.specs.declared.faults.record.RecordFault.TheVariants.{
  UnknownCode,
  ThreadTooLarge,
  TargetTooLarge,
  TaskTooLarge,
  LockTooLarge,
  ItemNotZero,
  TargetNotZero,
  MarksWrong,
  ReservedNotZero,
  DelayNotZero,
}

-- the first fault whose test holds
abbrev pub first : {F : Type 0} → List (Bool × F) → Option F
first [] = None
first (test ∷ tests) = cond test.0 (Some test.1) (first tests)

abbrev pub record_number : RecordFault → ℕ
record_number UnknownCode = 1
record_number ThreadTooLarge = 2
record_number TargetTooLarge = 2
record_number TaskTooLarge = 3
record_number LockTooLarge = 3
record_number ItemNotZero = 4
record_number TargetNotZero = 4
record_number MarksWrong = 4
record_number ReservedNotZero = 4
record_number DelayNotZero = 4

-- the first byte of the field at fault
abbrev pub record_byte : RecordFault → ℕ
record_byte UnknownCode = 0
record_byte ThreadTooLarge = 1
record_byte TargetTooLarge = 4
record_byte TaskTooLarge = 2
record_byte LockTooLarge = 2
record_byte ItemNotZero = 2
record_byte TargetNotZero = 4
record_byte MarksWrong = 5
record_byte ReservedNotZero = 6
record_byte DelayNotZero = 8
