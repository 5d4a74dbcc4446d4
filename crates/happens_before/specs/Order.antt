-- Orderings of a trace, the rules that close them, and what is before what.
use Rattle.std.specs.Prelude.{◌≡◌, ℕ, ◌<◌, Bool, true, false, ◌⊎◌, List, length, ◌≢◌}
use Rattle.recording.specs.Codes.{threadinit, threadexit, fork, join, attach_q, loop_on_q, post, begin, end, acquire, release, enable}
use Rattle.recording.specs.declared.marks.Marks.{Marks}
use Rattle.recording.specs.declared.row.Row.{Row}
use Rattle.happens_before.specs.Trace.{code, thread, item, target, marks, Belongs, Posts}

-- of an earlier and a later post to one thread, whether the task of the first must run before that of the second
abbrev pub Precedence : Type 0
Precedence = Marks → Marks → Bool

-- a set of pairs of positions
abbrev pub Pairs : Type 0
Pairs = ℕ → ℕ → Bool

-- ---- The rules: which pairs (i, j) with i < j each gives

-- one thread does both, and no loopOnQ of that thread stands before i
abbrev pub ProgramOrder : List Row → ℕ → ℕ → Type 0
ProgramOrder trace i j =
    (thread trace i ≡ thread trace j)
    × ((l : ℕ) → l < i → code trace l ≡ loop_on_q → thread trace l ≢ thread trace i)

-- both belong to one task
abbrev pub TaskOrder : List Row → ℕ → ℕ → Type 0
TaskOrder trace i j = (p : ℕ) × Belongs trace i p × Belongs trace j p

-- attachQ of t, then a post to t by another thread
abbrev pub AttachOrder : List Row → ℕ → ℕ → Type 0
AttachOrder trace i j =
    (code trace i ≡ attach_q)
    × (code trace j ≡ post)
    × (target trace j ≡ thread trace i)
    × (thread trace j ≢ thread trace i)

-- enable of a task, then its post
abbrev pub EnableOrder : List Row → ℕ → ℕ → Type 0
EnableOrder trace i j = (code trace i ≡ enable) × (code trace j ≡ post) × (item trace i ≡ item trace j)

-- the post of a task, then its begin
abbrev pub PostOrder : List Row → ℕ → ℕ → Type 0
PostOrder trace i j = (code trace i ≡ post) × (code trace j ≡ begin) × (item trace i ≡ item trace j)

-- fork of a thread, then its threadinit
abbrev pub ForkOrder : List Row → ℕ → ℕ → Type 0
ForkOrder trace i j = (code trace i ≡ fork) × (code trace j ≡ threadinit) × (target trace i ≡ thread trace j)

-- threadexit of a thread, then a join of it
abbrev pub JoinOrder : List Row → ℕ → ℕ → Type 0
JoinOrder trace i j = (code trace i ≡ threadexit) × (code trace j ≡ join) × (thread trace i ≡ target trace j)

-- a release of a lock, then an acquire of it by another thread
abbrev pub LockOrder : List Row → ℕ → ℕ → Type 0
LockOrder trace i j =
    (code trace i ≡ release)
    × (code trace j ≡ acquire)
    × (item trace i ≡ item trace j)
    × (thread trace i ≢ thread trace j)

-- a thread ends a task at i and begins one at j
abbrev pub Handover : List Row → ℕ → ℕ → Type 0
Handover trace i j = (code trace i ≡ end) × (code trace j ≡ begin) × (thread trace i ≡ thread trace j)

-- the ordering has the pair of their posts, and the first post precedes the second
abbrev pub QueueOrder : Precedence → List Row → Pairs → ℕ → ℕ → Type 0
QueueOrder D trace R i j =
    Handover trace i j
    × ((a b : ℕ)
    × Posts trace a (item trace i)
    × Posts trace b (item trace j)
    × (R a b ≡ true)
    × (D (marks trace a) (marks trace b) ≡ true))

-- some operation of the first task is the post of the second, or is paired before it
abbrev pub RunToCompletion : List Row → Pairs → ℕ → ℕ → Type 0
RunToCompletion trace R i j =
    Handover trace i j
    × ((k b : ℕ)
    × Belongs trace k (item trace i)
    × Posts trace b (item trace j)
    × ((k ≡ b) ⊎ (R k b ≡ true)))

-- (i, k) and (k, j) are in the ordering, and one thread does all three
abbrev pub ThreadTransitivity : List Row → Pairs → ℕ → ℕ → Type 0
ThreadTransitivity trace R i j =
    (k : ℕ)
    × (R i k ≡ true)
    × (R k j ≡ true)
    × (thread trace i ≡ thread trace k)
    × (thread trace k ≡ thread trace j)

-- (i, k) and (k, j) are in the ordering, and different threads do i and j
abbrev pub CrossThreadTransitivity : List Row → Pairs → ℕ → ℕ → Type 0
CrossThreadTransitivity trace R i j =
    (k : ℕ) × (R i k ≡ true) × (R k j ≡ true) × (thread trace i ≢ thread trace j)

-- ---- Closed orderings

-- R has every rising pair of held positions that the rule gives
abbrev pub Has : List Row → Pairs → (ℕ → ℕ → Type 0) → Type 0
Has trace R Rule = (i j : ℕ) → i < j → j < length trace → Rule i j → R i j ≡ true

pub record Closed (D : Precedence) (trace : List Row) (R : Pairs) : Type 0 where
  -- only rising pairs of held positions
  pub rising : (i j : ℕ) → R i j ≡ true → (i < j) × (j < length trace)
  pub program_order : Has trace R (ProgramOrder trace)
  pub task_order : Has trace R (TaskOrder trace)
  pub attach_order : Has trace R (AttachOrder trace)
  pub enable_order : Has trace R (EnableOrder trace)
  pub post_order : Has trace R (PostOrder trace)
  pub fork_order : Has trace R (ForkOrder trace)
  pub join_order : Has trace R (JoinOrder trace)
  pub lock_order : Has trace R (LockOrder trace)
  pub queue_order : Has trace R (QueueOrder D trace R)
  pub run_to_completion : Has trace R (RunToCompletion trace R)
  pub thread_transitivity : Has trace R (ThreadTransitivity trace R)
  pub cross_thread_transitivity : Has trace R (CrossThreadTransitivity trace R)

-- i is before j: every closed ordering has the pair
abbrev pub Before : Precedence → List Row → ℕ → ℕ → Type 0
Before D trace i j = (R : Pairs) → Closed D trace R → R i j ≡ true

-- some closed ordering lacks the pair
abbrev pub Lacked : Precedence → List Row → ℕ → ℕ → Type 0
Lacked D trace i j = (R : Pairs) × Closed D trace R × (R i j ≡ false)
