-- The number of each refusal and class, and what makes a race record.
use Rattle.std.specs.Prelude.{◌≡◌, ℕ, ◌<◌, Some, None, Option}
use Rattle.rules.specs.declared.faults.StateFault.{StateFault}
use Rattle.rules.specs.declared.faults.StateFault.TheVariants.{
  Full,
  ThreadNotReady,
  WrongTarget,
  WrongQueue,
  WrongLock,
  OutOfTurn,
  NotAdmitted,
}
use Rattle.rules.specs.declared.race.RaceClass.{RaceClass}
use Rattle.rules.specs.declared.race.RaceClass.TheVariants.{MultiThreaded, CoEnabled, Delayed, CrossPosted, Unknown}
use Rattle.rules.specs.declared.race.RaceRow.{RaceRow}

abbrev pub state_number : StateFault → ℕ
state_number Full = 11
state_number ThreadNotReady = 12
state_number WrongTarget = 13
state_number WrongQueue = 14
state_number WrongLock = 15
state_number OutOfTurn = 16
state_number NotAdmitted = 17

-- a position that is not held, or a cut above what is held
abbrev pub not_held : ℕ
not_held = 18

abbrev pub race_number : RaceClass → ℕ
race_number MultiThreaded = 1
race_number CoEnabled = 2
race_number Delayed = 3
race_number CrossPosted = 4
race_number Unknown = 5

-- the answer of class: 0 for no race
abbrev pub class_number : Option RaceClass → ℕ
class_number None = 0
class_number (Some c) = race_number c

-- a row that a race record is made of
abbrev pub Passes : RaceRow → Type 0
Passes r = (r.earlier < r.later) × (r.later < 512) × ((c : RaceClass) × (race_number c ≡ r.class))
