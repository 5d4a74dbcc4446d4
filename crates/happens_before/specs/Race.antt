-- Races and their classes.
use Rattle.std.specs.Prelude.{◌≡◌, ℕ, ◌<◌, true, ◌⊎◌, List, length, is_some, ◌≢◌}
use Rattle.recording.specs.Codes.{read, write}
use Rattle.recording.specs.declared.row.Row.{Row}
use Rattle.happens_before.specs.Trace.{code, thread, item, marks, Belongs, Posts}
use Rattle.happens_before.specs.Order.{Precedence, Before, Lacked}

-- both touch one location, and at least one writes
abbrev pub Conflict : List Row → ℕ → ℕ → Type 0
Conflict trace i j =
    (item trace i ≡ item trace j)
    × (((code trace i ≡ write) × (code trace j ≡ write))
    ⊎ (((code trace i ≡ write) × (code trace j ≡ read)) ⊎ ((code trace i ≡ read) × (code trace j ≡ write))))

-- a conflicting pair that some closed ordering lacks
abbrev pub Race : Precedence → List Row → ℕ → ℕ → Type 0
Race D trace i j = (i < j) × (j < length trace) × Conflict trace i j × Lacked D trace i j

-- ---- The chain of an operation in a task is the post of that task, then the chain of that post

-- a is the post of the task that i belongs to
abbrev pub TaskPost : List Row → ℕ → ℕ → Type 0
TaskPost trace i a = (p : ℕ) × Belongs trace i p × Posts trace a p

-- a is the first post of the chain of i that fits P
pub data Nearest (trace : List Row) (P : ℕ → Type 0) : ℕ → ℕ → Type 0 where
  first : {i a : ℕ} → TaskPost trace i a → P a → Nearest trace P i a
  later : {i b a : ℕ} → TaskPost trace i b → (P b → ⊥) → Nearest trace P b a → Nearest trace P i a

abbrev pub Environment : List Row → ℕ → Type 0
Environment trace a = (marks trace a).environment ≡ true

abbrev pub Delayed : List Row → ℕ → Type 0
Delayed trace a = is_some (marks trace a).delay ≡ true

-- done by another thread than t
abbrev pub Foreign : List Row → ℕ → ℕ → Type 0
Foreign trace t a = thread trace a ≡ t → ⊥

-- only one of the two chains has a post that fits, or the nearest ones differ
abbrev pub Apart : List Row → (ℕ → Type 0) → ℕ → ℕ → Type 0
Apart trace P i j =
    ((a : ℕ) × Nearest trace P i a × ((b : ℕ) → Nearest trace P j b → a ≢ b))
    ⊎ ((b : ℕ) × Nearest trace P j b × ((a : ℕ) → Nearest trace P i a → a ≢ b))

-- ---- Classes: the first that fits, by its number

abbrev pub MultiThreaded : List Row → ℕ → ℕ → Type 0
MultiThreaded trace i j = thread trace i ≡ thread trace j → ⊥

-- each chain has a nearest environment post, they differ, and that of i is not before that of j
abbrev pub CoEnabled : Precedence → List Row → ℕ → ℕ → Type 0
CoEnabled D trace i j =
    (a b : ℕ)
    × Nearest trace (Environment trace) i a
    × Nearest trace (Environment trace) j b
    × (a ≢ b)
    × (Before D trace a b → ⊥)

abbrev pub DelayApart : List Row → ℕ → ℕ → Type 0
DelayApart trace i j = Apart trace (Delayed trace) i j

abbrev pub CrossPosted : List Row → ℕ → ℕ → Type 0
CrossPosted trace i j = Apart trace (Foreign trace (thread trace i)) i j

pub data Class (D : Precedence) (trace : List Row) (i j : ℕ) : ℕ → Type 0 where
  multi_threaded : MultiThreaded trace i j → Class D trace i j 1
  co_enabled : (MultiThreaded trace i j → ⊥) → CoEnabled D trace i j → Class D trace i j 2
  delayed : (MultiThreaded trace i j → ⊥) → (CoEnabled D trace i j → ⊥) → DelayApart trace i j → Class D trace i j 3
  cross_posted :
      (MultiThreaded trace i j → ⊥)
      → (CoEnabled D trace i j → ⊥)
      → (DelayApart trace i j → ⊥)
      → CrossPosted trace i j
      → Class D trace i j 4
  unknown :
      (MultiThreaded trace i j → ⊥)
      → (CoEnabled D trace i j → ⊥)
      → (DelayApart trace i j → ⊥)
      → (CrossPosted trace i j → ⊥)
      → Class D trace i j 5
