-- Tables agree with what is held at first, and after each accepted operation.
use Rattle.std.proofs.Common.{◌≡◌, ℕ, ◌<◌, Bool, true, false, List, [], ◌∷◌, ◌++◌, length, set, replicate, None, Option, sym, refl, ap, ◌∙◌, subst, arith, length-set}
use Rattle.std.proofs.lemmas.Grind.{common_steps}
use Rattle.std.proofs.lemmas.List.{get_or-replicate}
use Rattle.recording.specs.Codes.{fork}
use Rattle.recording.specs.Lawful.{lawful}
use Rattle.recording.specs.declared.row.Row.{Row}
use Rattle.rules.specs.Acceptance.{some, lasting}
use Rattle.tables.specs.declared.tables.Tables.{Tables}
use Rattle.tables.specs.declared.tasks.TaskRecord.{TaskRecord}
use Rattle.tables.specs.declared.threads.ThreadRecord.{ThreadRecord}
use Rattle.tables.specs.Matches.{Matches, ThreadMatches, LockMatches, TaskMatches, table_refusal}
use Rattle.tables.specs.Records.{thread_at, unstarted}
use Rattle.tables.specs.Steps.{changed, stepped, relocked, retasked, TakenIn}
use Rattle.tables.proofs.LockSteps.{locks_kept}
use Rattle.tables.proofs.Passed.{Bounded, bounded, Accepted, accepted}
use Rattle.tables.proofs.TaskSteps.{tasks_kept}
use Rattle.tables.proofs.ThreadSteps.{threads_kept}

-- ---- Nothing is held

idle : (initial : ℕ → Bool) (t : ℕ) → ThreadMatches initial [] t (unstarted (initial t))
unfolding some lasting
idle initial t =
    record {
      stage_is = grind arith;
      queue_is = refl;
      looping_is = refl;
      current_is = λ p. refl;
      current_small = λ p is. grind arith;
    }

unheld : (k : ℕ) → LockMatches [] k None
unfolding lasting
unheld k = record { holder_is = λ t. refl; holder_small = λ t is. grind arith }

unposted : (p : ℕ) → TaskMatches [] p (record { posting = None; begun = false })
unfolding some
unposted p = record { posted_is = refl; target_is = λ t. refl; position_is = λ b. grind arith; begun_is = refl }

pub none_held :
    (initial : ℕ → Bool) (threads : List ThreadRecord)
    → length threads ≡ 64
    → ((t : ℕ) → t < 64 → thread_at threads t ≡ unstarted (initial t))
    → Matches initial []
    (record {
      threads = threads;
      holders = replicate 64 None;
      tasks = replicate 512 (record { posting = None; begun = false });
    })
none_held initial threads whole each =
    record {
      whole = (whole, refl, refl);
      threads_match = λ t l. subst (ThreadMatches initial [] t) (sym (each t l)) (idle initial t);
      locks_match = λ k l. subst (LockMatches [] k) (sym (get_or-replicate 64 k None None l)) (unheld k);
      tasks_match = λ p l. subst (TaskMatches [] p) (sym (get_or-replicate 512 p _ _ l)) (unposted p);
    }

-- ---- One more is held

changed_small : (o : Row) → Bounded o → changed o < 64
changed_small o b = let forks = b.target_small fork refl in grind arith

relocked_whole : (o : Row) (holders : List (Option ℕ)) → length (relocked o holders) ≡ length holders
relocked_whole o holders = grind (arith, common_steps)

retasked_whole : (o : Row) (n : ℕ) (tasks : List TaskRecord) → length (retasked o n tasks) ≡ length tasks
retasked_whole o n tasks = grind (arith, common_steps)

module _
    (initial : ℕ → Bool) (held : List Row) (o : Row) (tables : Tables) (m : Matches initial held tables)
    (good : lawful o ≡ true) (none : table_refusal initial held o ≡ None) (few : length held < 512) where
  stepped_tables :
      Matches initial (held ++ o ∷ [])
      (record {
        threads = set tables.threads (changed o) (stepped o (thread_at tables.threads (changed o)));
        holders = relocked o tables.holders;
        tasks = retasked o (length held) tables.tasks;
      })
  stepped_tables =
      record {
        whole = (
          length-set tables.threads (changed o) _ ∙ m.whole.0,
          relocked_whole o tables.holders ∙ m.whole.1,
          retasked_whole o (length held) tables.tasks ∙ m.whole.2,
        );
        threads_match =
            λ t l.
            threads_kept initial held o small found tables.threads (rw m.whole.0 (changed_small o small)) t
            (m.threads_match t l);
        locks_match = λ k l. locks_kept initial held o small found tables.holders m.whole.1 k l (m.locks_match k l);
        tasks_match =
            λ p l. tasks_kept initial held o small found tables.tasks m.whole.2 few p (m.tasks_match p l);
      }
    where
      small : Bounded o
      small = bounded o good

      found : Accepted initial held o
      found = accepted initial held o none

  pub one_more : (position : ℕ) → position ≡ length held → (after : Tables) → TakenIn o position tables after → Matches initial (held ++ o ∷ []) after
  one_more position next after taken =
      subst (Matches initial (held ++ o ∷ []))
      (λ i.
      record {
        threads = sym taken.threads i;
        holders = sym taken.holders i;
        tasks = sym (taken.tasks ∙ ap (λ n. retasked o n tables.tasks) next) i;
      })
      stepped_tables
