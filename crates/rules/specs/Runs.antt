-- Whole runs: any sequence of calls on a newly opened examination, and what each answers and leaves held.
use Rattle.std.specs.Prelude.{◌≡◌, ℕ, ◌<◌, ◌≤◌, true, ◌⊎◌, List, [], ◌∷◌, ◌++◌, length, take, drop, Some, None}
use Rattle.recording.specs.Lawful.{lawful}
use Rattle.recording.specs.declared.row.Row.{Row}
use Rattle.happens_before.specs.Order.{Before}
use Rattle.happens_before.specs.Renaming.{Renaming, renamed}
use Rattle.rules.specs.declared.faults.StateFault.{StateFault}
use Rattle.rules.specs.declared.order.Order.{Order}
use Rattle.rules.specs.declared.race.RaceRow.{RaceRow}
use Rattle.rules.specs.Acceptance.{Setting, refusal}
use Rattle.rules.specs.Answers.{Count, Ordered, Classed, RaceList}
use Rattle.rules.specs.Numbers.{state_number, not_held}

pub data Call : Type 0 where
  add : Row → Call
  cut : ℕ → Call
  order : ℕ → ℕ → Call
  class : ℕ → ℕ → Call
  -- with the places that are lent
  list : List RaceRow → Call

pub data Answer : Type 0 where
  -- the position, and how many held operations are before it
  added : ℕ → ℕ → Answer
  cut_to : ℕ → Answer
  ordered : Order → Answer
  classed : ℕ → Answer
  -- how many races, and the lent places after the call
  listed : ℕ → List RaceRow → Answer
  -- the places needed, and the lent ones after the call
  needs : ℕ → List RaceRow → Answer
  refused : ℕ → Answer

-- one call: what is held, the call, its answer, what is held after
pub data Step (s : Setting) (held : List Row) : Call → Answer → List Row → Type 0 where
  adds :
      {o : Row} {c : ℕ}
      → refusal s held o ≡ None
      → Count (length held) (λ i. Before s.precedence (held ++ o ∷ []) i (length held)) c
      → Step s held (add o) (added (length held) c) (held ++ o ∷ [])
  refuses : {o : Row} {f : StateFault} → refusal s held o ≡ Some f → Step s held (add o) (refused (state_number f)) held
  cuts : {n : ℕ} → n ≤ length held → Step s held (cut n) (cut_to n) (take n held)
  cuts_not : {n : ℕ} → length held < n → Step s held (cut n) (refused not_held) held
  orders :
      {i j : ℕ} {w : Order}
      → i < length held
      → j < length held
      → Ordered s.precedence held i j w
      → Step s held (order i j) (ordered w) held
  orders_not : {i j : ℕ} → (length held ≤ i) ⊎ (length held ≤ j) → Step s held (order i j) (refused not_held) held
  classes :
      {i j c : ℕ}
      → i < length held
      → j < length held
      → Classed s.precedence held i j c
      → Step s held (class i j) (classed c) held
  classes_not : {i j : ℕ} → (length held ≤ i) ⊎ (length held ≤ j) → Step s held (class i j) (refused not_held) held
  lists :
      {places races : List RaceRow}
      → RaceList s.precedence held races
      → length races ≤ length places
      → Step s held (list places) (listed (length races) (races ++ drop (length races) places)) held
  lists_not :
      {places races : List RaceRow}
      → RaceList s.precedence held races
      → length places < length races
      → Step s held (list places) (needs (length races) places) held

-- calls in turn, going on after refusals
pub data Run (s : Setting) : List Row → List Call → List Answer → List Row → Type 0 where
  done : {held : List Row} → Run s held [] [] held
  next :
      {held between after : List Row} {c : Call} {calls : List Call} {a : Answer} {answers : List Answer}
      → Step s held c a between
      → Run s between calls answers after
      → Run s held (c ∷ calls) (a ∷ answers) after

-- ---- Renamed runs

-- the same call under a renaming; what lent places hold at first may differ
pub data RenamedCall (m : Renaming) : Call → Call → Type 0 where
  add_renamed : {o : Row} → RenamedCall m (add o) (add (renamed m o))
  cut_alike : {n : ℕ} → RenamedCall m (cut n) (cut n)
  order_alike : {i j : ℕ} → RenamedCall m (order i j) (order i j)
  class_alike : {i j : ℕ} → RenamedCall m (class i j) (class i j)
  list_alike : {places places' : List RaceRow} → length places ≡ length places' → RenamedCall m (list places) (list places')

-- the same answer: equal but for what lent places held before
pub data SameAnswer : Answer → Answer → Type 0 where
  equal : {a : Answer} → SameAnswer a a
  same_races :
      {n : ℕ} {places places' : List RaceRow} → take n places ≡ take n places' → SameAnswer (listed n places) (listed n places')
  same_need : {n : ℕ} {places places' : List RaceRow} → SameAnswer (needs n places) (needs n places')

pub data Pairwise {A B : Type 0} (R : A → B → Type 0) : List A → List B → Type 0 where
  none : Pairwise R [] []
  more : {x : A} {y : B} {xs : List A} {ys : List B} → R x y → Pairwise R xs ys → Pairwise R (x ∷ xs) (y ∷ ys)

-- the setting under a renaming of threads: the same discipline, and the initial threads renamed
pub record RenamedSetting (m : Renaming) (s s' : Setting) : Type 0 where
  pub initial : (t : ℕ) → t < 64 → s'.initial (m.threads.to t) ≡ s.initial t
  pub admission : s'.admission ≡ s.admission
  pub precedence : s'.precedence ≡ s.precedence

-- each added row is lawful
abbrev pub LawfulCall : Call → Type 0
LawfulCall (add o) = lawful o ≡ true
LawfulCall (cut n) = Unit {0}
LawfulCall (order i j) = Unit {0}
LawfulCall (class i j) = Unit {0}
LawfulCall (list places) = Unit {0}

-- whatever the renaming, each run of the renamed calls that the definitions allow has the same answers
abbrev pub SameRenamed : Setting → List Call → List Answer → Type 0
SameRenamed s calls answers =
    (m : Renaming) (s' : Setting)
    → RenamedSetting m s s'
    → (calls' : List Call)
    → Pairwise (RenamedCall m) calls calls'
    → (answers' : List Answer) (after' : List Row)
    → Run s' [] calls' answers' after'
    → Pairwise SameAnswer answers answers'
