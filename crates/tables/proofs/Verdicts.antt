-- Tables that agree with what is held judge as the definitions do.
use Rattle.std.proofs.Common.{◌≡◌, ℕ, ◌<◌, Bool, true, false, not, ◌&&◌, eqb, List, [], ◌∷◌, is_some, Some, None, Option, sym, refl, arith}
use Rattle.std.proofs.Math.Bool.{and-false}
use Rattle.std.proofs.lemmas.Bool.{eq-eqb}
use Rattle.recording.specs.Codes.{fork, join, post, begin, acquire, release}
use Rattle.recording.specs.Faults.{first}
use Rattle.recording.specs.declared.row.Row.{Row}
use Rattle.rules.specs.Acceptance.{some_below, created, running, unknown, finished, current, busy, waits, holds, held_by_another, overtakes, thread_not_ready, wrong_target, wrong_queue, wrong_lock, out_of_turn}
use Rattle.rules.specs.declared.faults.StateFault.TheVariants.{ThreadNotReady, WrongTarget, WrongQueue, WrongLock, OutOfTurn, NotAdmitted}
use Rattle.rules.proofs.Pushes.{some_below_true, some_below_false}
use Rattle.tables.specs.declared.tables.Tables.{Tables}
use Rattle.tables.specs.Judging.{not_ready, wrong_target_by_tables, wrong_queue_by_tables, wrong_lock_by_tables, out_of_turn_by_tables, verdict}
use Rattle.rules.specs.Fair.{no_discipline}
use Rattle.tables.specs.Matches.{Matches, ThreadMatches, table_refusal}
use Rattle.rules.specs.Options.{is_of}
use Rattle.tables.specs.Records.{is_other, waits_at, is_unknown, is_created, is_running, is_finished, thread_at, holder_at, task_at}
use Rattle.tables.proofs.Passed.{Bounded}

-- ---- The holder, and the current task

pub some_busy :
    (n : ℕ) (c : Option ℕ) (p : ℕ → Bool)
    → ((m : ℕ) → is_of c m ≡ p m)
    → ((m : ℕ) → is_of c m ≡ true → m < n)
    → is_some c ≡ some_below n p
some_busy n None p is small = grind (arith, some_below_false)
some_busy n (Some m) p is small =
    let here = small m (eq-eqb m m refl) in let found = some_below_true n p m here in grind arith

pub some_other :
    (n : ℕ) (c : Option ℕ) (p : ℕ → Bool) (t : ℕ)
    → ((m : ℕ) → is_of c m ≡ p m)
    → ((m : ℕ) → is_of c m ≡ true → m < n)
    → is_other c t ≡ some_below n (λ u. not (eqb u t) && p u)
some_other n None p t is small = grind (arith, some_below_false)
some_other n (Some m) p t is small =
    let here = small m (eq-eqb m m refl) in
    let found = some_below_true n (λ u. not (eqb u t) && p u) m here in
    grind (arith, some_below_false)

-- a discipline that never precedes lets no task overtake
pub never_overtakes : (held : List Row) (t p : ℕ) → overtakes (λ _ _. false) held t p ≡ false
never_overtakes held t p = grind (arith, some_below_false)

module _ (initial : ℕ → Bool) (held : List Row) (tables : Tables) (m : Matches initial held tables) where
  module _ (t : ℕ) (l : t < 64) where
    thread_is : ThreadMatches initial held t (thread_at tables.threads t)
    thread_is = m.threads_match t l

    unknown_is : is_unknown (thread_at tables.threads t).stage ≡ unknown held initial t
    unknown_is = let r = thread_is in grind arith

    created_is : is_created (thread_at tables.threads t).stage ≡ created held initial t
    created_is = let r = thread_is in grind arith

    running_is : is_running (thread_at tables.threads t).stage ≡ running held t
    running_is = let r = thread_is in grind arith

    finished_is : is_finished (thread_at tables.threads t).stage ≡ finished held t
    finished_is = let r = thread_is in grind arith

    busy_is : is_some (thread_at tables.threads t).current ≡ busy held t
    busy_is =
        some_busy 512 (thread_at tables.threads t).current (current held t) thread_is.current_is
        thread_is.current_small

  another_is : (t k : ℕ) → k < 64 → is_other (holder_at tables.holders k) t ≡ held_by_another held t k
  another_is t k l =
      let r = m.locks_match k l in
      some_other 64 (holder_at tables.holders k) (λ u. holds held u k) t r.holder_is r.holder_small

  waits_is : (t p : ℕ) → p < 512 → waits_at (task_at tables.tasks p) t ≡ waits held t p
  waits_is t p l = let r = m.tasks_match p l in λ i. r.target_is t i && not (r.begun_is i)

  module _ (o : Row) (b : Bounded o) where
    same_ready : not_ready tables o ≡ thread_not_ready (no_discipline initial) held o
    same_ready =
        let created = created_is o.thread b.thread_small in
        let running = running_is o.thread b.thread_small in
        grind arith

    same_target : wrong_target_by_tables tables o ≡ wrong_target (no_discipline initial) held o
    same_target =
        let forks = λ (e : eqb o.code fork ≡ true). unknown_is o.target (b.target_small fork refl e) in
        let joins = λ (e : eqb o.code join ≡ true). finished_is o.target (b.target_small join refl e) in
        let runs = λ (e : eqb o.code post ≡ true). running_is o.target (b.target_small post refl e) in
        let queues = λ (e : eqb o.code post ≡ true). (thread_is o.target (b.target_small post refl e)).queue_is in
        grind arith

    same_queue : wrong_queue_by_tables tables o ≡ wrong_queue (no_discipline initial) held o
    same_queue = let r = thread_is o.thread b.thread_small in grind arith

    same_lock : wrong_lock_by_tables tables o ≡ wrong_lock (no_discipline initial) held o
    same_lock =
        let acquires = λ (e : eqb o.code acquire ≡ true). another_is o.thread o.item (b.lock_small acquire refl e) in
        let releases =
        λ (e : eqb o.code release ≡ true). (m.locks_match o.item (b.lock_small release refl e)).holder_is o.thread
        in
        grind arith

    same_turn : out_of_turn_by_tables tables o ≡ out_of_turn (no_discipline initial) held o
    same_turn =
        let posts = λ (e : eqb o.code post ≡ true). (m.tasks_match o.item (b.task_small post refl e)).posted_is in
        let waits = λ (e : eqb o.code begin ≡ true). waits_is o.thread o.item (b.task_small begin refl e) in
        let busy = busy_is o.thread b.thread_small in
        let current = (thread_is o.thread b.thread_small).current_is o.item in
        grind (arith, never_overtakes held o.thread o.item)

    pub verdict_is : verdict tables o ≡ table_refusal initial held o
    unfolding table_refusal
    verdict_is =
        λ i.
        first
        ((same_ready i, ThreadNotReady)
        ∷ (same_target i, WrongTarget)
        ∷ (same_queue i, WrongQueue)
        ∷ (same_lock i, WrongLock)
        ∷ (same_turn i, OutOfTurn)
        ∷ (sym (and-false (eqb o.code post)) i, NotAdmitted)
        ∷ [])
