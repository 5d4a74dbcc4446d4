-- What a row that passes all tests gives.
use Rattle.std.proofs.Common.{◌≡◌, ℕ, ◌<◌, Bool, true, false, eqb, List, drop, Some, None, arith}
use Rattle.std.proofs.lemmas.Grind.{common_steps}
use Rattle.recording.specs.Codes.{threadinit, fork, post, begin, end, acquire, release, has_target, has_task, has_lock}
use Rattle.recording.specs.Lawful.{lawful, fault_in}
use Rattle.recording.specs.declared.faults.record.RecordFault.{RecordFault}
use Rattle.recording.specs.declared.row.Row.{Row}
use Rattle.recording.proofs.LawfulRows.{test, passed, thread_fits, target_fits, task_fits, lock_fits}
use Rattle.rules.specs.Acceptance.{created, unknown, busy, current, posted, holds, held_by_another, state_tests}
use Rattle.rules.specs.Fair.{no_discipline}
use Rattle.rules.specs.declared.faults.StateFault.{StateFault}
use Rattle.tables.specs.Matches.{table_refusal}

pub never_faulty : (o : Row) (f : RecordFault) → lawful o ≡ true → fault_in o ≡ Some f → ⊥
never_faulty o f h e = grind (arith, common_steps)

-- the bounds of a lawful row, by the fields that its code c has
pub record Bounded (o : Row) : Type 0 where
  pub thread_small : o.thread < 64
  pub target_small : (c : ℕ) → has_target c ≡ true → eqb o.code c ≡ true → o.target < 64
  pub task_small : (c : ℕ) → has_task c ≡ true → eqb o.code c ≡ true → o.item < 512
  pub lock_small : (c : ℕ) → has_lock c ≡ true → eqb o.code c ≡ true → o.item < 64

pub bounded : (o : Row) → lawful o ≡ true → Bounded o
bounded o h =
    let targets = target_fits o h in
    let tasks = task_fits o h in
    let locks = lock_fits o h in
    record {
      thread_small = thread_fits o h;
      target_small = λ c has is. grind arith;
      task_small = λ c has is. grind arith;
      lock_small = λ c has is. grind arith;
    }

-- what an accepted operation has found, by its code
pub record Accepted (initial : ℕ → Bool) (held : List Row) (o : Row) : Type 0 where
  pub created_before : eqb o.code threadinit ≡ true → created held initial o.thread ≡ true
  pub unknown_before : eqb o.code fork ≡ true → unknown held initial o.target ≡ true
  pub free_before : eqb o.code acquire ≡ true → held_by_another held o.thread o.item ≡ false
  pub held_before : eqb o.code release ≡ true → holds held o.thread o.item ≡ true
  pub new_before : eqb o.code post ≡ true → posted held o.item ≡ false
  pub idle_before : eqb o.code begin ≡ true → busy held o.thread ≡ false
  pub current_before : eqb o.code end ≡ true → current held o.thread o.item ≡ true

module _ (initial : ℕ → Bool) (held : List Row) (o : Row) where
  abbrev tests : List (Bool × StateFault)
  tests = drop 1 (state_tests (no_discipline initial) held o)

  found : ((n : ℕ) → test n tests ≡ false) → Accepted initial held o
  found at =
      record {
        created_before = λ is. let ready = at 0 in grind arith;
        unknown_before = λ is. let target = at 1 in grind arith;
        free_before = λ is. let lock = at 3 in grind arith;
        held_before = λ is. let lock = at 3 in grind arith;
        new_before = λ is. let turn = at 4 in grind arith;
        idle_before = λ is. let turn = at 4 in grind arith;
        current_before = λ is. let turn = at 4 in grind arith;
      }

  pub accepted : table_refusal initial held o ≡ None → Accepted initial held o
  unfolding table_refusal
  accepted e = found (λ n. passed n tests e)
