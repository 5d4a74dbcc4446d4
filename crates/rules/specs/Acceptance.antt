-- Which operations are accepted, read off the list of those held.
use Rattle.std.specs.Prelude.{◌≡◌, ℕ, zero, suc, Bool, false, cond, not, ◌&&◌, ◌||◌, List, [], ◌∷◌, length, Some, None, Option, Result, MatchResult, ◌==◌, nat_le}
use Rattle.recording.specs.Codes.{
  threadinit,
  threadexit,
  fork,
  join,
  attach_q,
  loop_on_q,
  post,
  begin,
  end,
  acquire,
  release,
}
use Rattle.recording.specs.Faults.{first}
use Rattle.recording.specs.Masks.{bit}
use Rattle.recording.specs.Posts.{marks_in}
use Rattle.recording.specs.declared.marks.Marks.{Marks}
use Rattle.recording.specs.declared.row.Row.{Row}
use Rattle.happens_before.specs.Trace.{row, item, marks}
use Rattle.rules.specs.declared.faults.StateFault.{StateFault}
use Rattle.rules.specs.declared.faults.StateFault.TheVariants.{
  Full,
  ThreadNotReady,
  WrongTarget,
  WrongQueue,
  WrongLock,
  OutOfTurn,
  NotAdmitted,
}

-- what an examination is opened with
pub record Setting : Type 0 where
  -- the initial threads
  pub initial : ℕ → Bool
  -- the two relations of its discipline
  pub admission : Marks → Bool
  pub precedence : Marks → Marks → Bool

-- by the relations of a discipline and the mask of initial threads
abbrev pub opened : (Marks → Bool) → (Marks → Marks → Bool) → ℕ → Setting
opened admission precedence mask = record { initial = bit mask; admission = admission; precedence = precedence }

-- ---- Operations in a list

-- some operation passes
unfoldable pub some : (Row → Bool) → List Row → Bool
some p [] = false
some p (o ∷ os) = p o || some p os

-- some operation starts what none after it stops
unfoldable pub lasting : (Row → Bool) → (Row → Bool) → List Row → Bool
lasting start stop [] = false
lasting start stop (o ∷ os) = (start o && not (some stop os)) || lasting start stop os

-- some number below n passes
unfoldable pub some_below : ℕ → (ℕ → Bool) → Bool
some_below zero p = false
some_below (suc n) p = p n || some_below n p

-- thread t does the operation with code c
abbrev pub does : ℕ → ℕ → Row → Bool
does c t o = o.code == c && o.thread == t

-- thread t does it on task p, or on lock p
abbrev pub does_on : ℕ → ℕ → ℕ → Row → Bool
does_on c t p o = does c t o && o.item == p

-- the operation with code c on task p, by whatever thread
abbrev pub is_on : ℕ → ℕ → Row → Bool
is_on c p o = o.code == c && o.item == p

abbrev pub forks : ℕ → Row → Bool
forks u o = o.code == fork && o.target == u

-- a post to thread u
abbrev pub posts_to : ℕ → Row → Bool
posts_to u o = o.code == post && o.target == u

-- ---- What follows from the operations held

module _ (held : List Row) where
  -- thread t was initialised, whatever became of it since
  abbrev pub started : ℕ → Bool
  started t = some (does threadinit t) held

  abbrev pub finished : ℕ → Bool
  finished t = some (does threadexit t) held

  abbrev pub running : ℕ → Bool
  running t = started t && not (finished t)

  module _ (initial : ℕ → Bool) where
    abbrev pub known : ℕ → Bool
    known t = initial t || some (forks t) held

    abbrev pub created : ℕ → Bool
    created t = known t && not (started t || finished t)

    abbrev pub unknown : ℕ → Bool
    unknown t = not (known t || (started t || finished t))

  abbrev pub queue : ℕ → Bool
  queue t = some (does attach_q t) held

  abbrev pub loops : ℕ → Bool
  loops t = some (does loop_on_q t) held

  -- thread t began task p and has not ended it since
  abbrev pub current : ℕ → ℕ → Bool
  current t p = lasting (does_on begin t p) (does_on end t p) held

  -- thread t has a current task
  abbrev pub busy : ℕ → Bool
  busy t = some_below 512 (current t)

  abbrev pub posted : ℕ → Bool
  posted p = some (is_on post p) held

  abbrev pub begun : ℕ → Bool
  begun p = some (is_on begin p) held

  -- task p waits at thread t: posted there and not begun
  abbrev pub waits : ℕ → ℕ → Bool
  waits t p = some (λ o. is_on post p o && o.target == t) held && not (begun p)

  -- thread t acquired lock k, and has neither released it nor finished since
  abbrev pub holds : ℕ → ℕ → Bool
  holds t k = lasting (does_on acquire t k) (λ o. does_on release t k o || does threadexit t o) held

  abbrev pub held_by_another : ℕ → ℕ → Bool
  held_by_another t k = some_below 64 (λ u. not (u == t) && holds u k)

-- a task that waits at thread t, posted before p was, precedes p
abbrev pub overtakes : (Marks → Marks → Bool) → List Row → ℕ → ℕ → Bool
overtakes precedence held t p =
    some_below (length held)
    (λ b.
    is_on post p (row held b)
    && some_below b
    (λ a.
    posts_to t (row held a)
    && (waits held t (item held a) && precedence (marks held a) (marks held b))))

-- ---- What an operation is refused for: the first that applies

module _ (s : Setting) (held : List Row) (o : Row) where
  abbrev pub thread_not_ready : Bool
  thread_not_ready =
      cond (o.code == threadinit)
      (not (created held s.initial o.thread))
      (not (running held o.thread))

  abbrev pub wrong_target : Bool
  wrong_target =
      (o.code == fork && not (unknown held s.initial o.target))
      || ((o.code == join && not (finished held o.target))
      || (o.code == post && not (running held o.target && queue held o.target)))

  abbrev pub wrong_queue : Bool
  wrong_queue =
      (o.code == attach_q && queue held o.thread)
      || ((o.code == loop_on_q && (not (queue held o.thread) || loops held o.thread))
      || (o.code == begin && not (loops held o.thread)))

  abbrev pub wrong_lock : Bool
  wrong_lock =
      (o.code == acquire && held_by_another held o.thread o.item)
      || (o.code == release && not (holds held o.thread o.item))

  abbrev pub out_of_turn : Bool
  out_of_turn =
      (o.code == post && posted held o.item)
      || ((o.code == begin
      && (busy held o.thread
      || (not (waits held o.thread o.item) || overtakes s.precedence held o.thread o.item)))
      || (o.code == end && not (current held o.thread o.item)))

  abbrev pub not_admitted : Bool
  not_admitted = o.code == post && not (s.admission (marks_in o))

  abbrev pub state_tests : List (Bool × StateFault)
  state_tests =
      (nat_le 512 (length held), Full)
      ∷ (thread_not_ready, ThreadNotReady)
      ∷ (wrong_target, WrongTarget)
      ∷ (wrong_queue, WrongQueue)
      ∷ (wrong_lock, WrongLock)
      ∷ (out_of_turn, OutOfTurn)
      ∷ (not_admitted, NotAdmitted)
      ∷ []

  unfoldable pub refusal : Option StateFault
  refusal = first state_tests

-- an operation is turned away for the refusal, if there is one
abbrev pub Judged : Option StateFault → Result Unit StateFault → Type 0
Judged refusal result = MatchResult result (λ _. refusal ≡ None) (λ f. refusal ≡ Some f)
