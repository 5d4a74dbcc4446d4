-- What is proved of order and races, for every precedence.
use Rattle.std.specs.Prelude.{◌≡◌, ℕ, ◌<◌, true, false, ◌↔◌, List, ◌++◌, map, length}
use Rattle.recording.specs.Codes.{begin, has_target, has_task, has_lock, has_location}
use Rattle.recording.specs.declared.row.Row.{Row}
use Rattle.happens_before.specs.Trace.{row, code, item, Posts}
use Rattle.happens_before.specs.Order.{Precedence, Pairs, Closed, Before, Lacked}
use Rattle.happens_before.specs.Race.{Race, Class}
use Rattle.happens_before.specs.Renaming.{Renaming, renamed}

-- every post of a task stands before every begin of it
abbrev pub PostedFirst : List Row → Type 0
PostedFirst trace =
    (b j : ℕ) → j < length trace → code trace j ≡ begin → Posts trace b (item trace j) → b < j

-- ---- There is a least closed ordering, so that 'before' is itself closed

-- it has just the pairs that are before, and some closed ordering lacks each other pair
pub record Least (D : Precedence) (trace : List Row) : Type 0 where
  pub least : Pairs
  pub closed : Closed D trace least
  pub before : (i j : ℕ) → Before D trace i j ↔ (least i j ≡ true)
  pub lacked : (i j : ℕ) → Lacked D trace i j ↔ (least i j ≡ false)

abbrev pub LeastOrderingExists : Type 0
LeastOrderingExists = (D : Precedence) (trace : List Row) → PostedFirst trace → Least D trace

-- ---- What leaves order, races and classes as they were

-- two traces have the same among the positions below n
pub record SameBelow (D : Precedence) (n : ℕ) (xs ys : List Row) : Type 0 where
  pub before : (i j : ℕ) → j < n → Before D xs i j ↔ Before D ys i j
  pub races : (i j : ℕ) → j < n → Race D xs i j ↔ Race D ys i j
  pub classes : (i j c : ℕ) → i < n → j < n → Class D xs i j c ↔ Class D ys i j c

abbrev pub AdditionsChangeNothingEarlier : Type 0
AdditionsChangeNothingEarlier =
    (D : Precedence) (trace more : List Row)
    → PostedFirst (trace ++ more)
    → SameBelow D (length trace) (trace ++ more) trace

-- each number that the operation has is in the range of its kind
abbrev pub InRange : Row → Type 0
InRange r =
    (r.thread < 64)
    × (has_target r.code ≡ true → r.target < 64)
    × (has_task r.code ≡ true → r.item < 512)
    × (has_lock r.code ≡ true → r.item < 64)
    × (has_location r.code ≡ true → r.item < 65536)

abbrev pub AllInRange : List Row → Type 0
AllInRange trace = (i : ℕ) → i < length trace → InRange (row trace i)

abbrev pub RenamingChangesNothing : Type 0
RenamingChangesNothing =
    (D : Precedence) (m : Renaming) (trace : List Row)
    → PostedFirst trace
    → AllInRange trace
    → SameBelow D (length trace) (map (renamed m) trace) trace

-- ---- A pair has no two classes

abbrev pub ClassesExclude : Type 0
ClassesExclude =
    (D : Precedence) (trace : List Row) (i j c d : ℕ) → Class D trace i j c → Class D trace i j d → c ≡ d
