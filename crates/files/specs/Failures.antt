-- What holds of an answer that may be a failure.
use Rattle.std.specs.Prelude.{Ok, Err, Result}
use Rattle.files.specs.declared.faults.failure.Failure.{Failure}
use Rattle.files.specs.declared.faults.failure.Failure.TheVariants.{Fault, Memory}

-- one fact of the value, another of the fault; of want of memory nothing is said
abbrev pub MatchFailure : {A F : Type 0} → Result A (Failure F) → (A → Type 0) → (F → Type 0) → Type 0
MatchFailure (Ok x) value fault = value x
MatchFailure (Err (Fault f)) value fault = fault f
MatchFailure (Err Memory) value fault = Unit {0}
