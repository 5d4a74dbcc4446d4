-- The thread records still agree after one more operation.
use Rattle.std.proofs.Common.{◌≡◌, ℕ, ◌<◌, Bool, true, cond, ◌||◌, List, [], ◌∷◌, ◌++◌, length, set, Some, None, Option, sym, refl, subst, arith}
use Rattle.std.proofs.lemmas.Grind.{common_steps}
use Rattle.recording.specs.Codes.{threadinit, threadexit, attach_q, loop_on_q, begin, end}
use Rattle.recording.specs.declared.row.Row.{Row}
use Rattle.rules.specs.Acceptance.{does, forks, current}
use Rattle.rules.proofs.Pushes.{some_push, lasting_push}
use Rattle.rules.specs.Options.{is_of}
use Rattle.tables.specs.declared.threads.Stage.TheVariants.{Created, Running, Finished}
use Rattle.tables.specs.declared.threads.ThreadRecord.{ThreadRecord}
use Rattle.tables.specs.Matches.{ThreadMatches}
use Rattle.tables.specs.Records.{thread_at}
use Rattle.tables.specs.Steps.{changed, stepped}
use Rattle.tables.proofs.Passed.{Bounded, Accepted}
use Rattle.tables.proofs.Verdicts.{some_busy}

-- what the operation makes of the record of thread t
abbrev after : ℕ → Row → ThreadRecord → ThreadRecord
after t o r =
    record {
      stage = cond (does threadexit t o) Finished (cond (does threadinit t o) Running (cond (forks t o) Created r.stage));
      queue = does attach_q t o || r.queue;
      looping = does loop_on_q t o || r.looping;
      current = cond (does begin t o) (Some o.item) (cond (does end t o) None r.current);
    }

after_is :
    (t : ℕ) (o : Row) (threads : List ThreadRecord)
    → changed o < length threads
    → thread_at (set threads (changed o) (stepped o (thread_at threads (changed o)))) t ≡ after t o (thread_at threads t)
after_is t o threads l = grind (arith, common_steps)

-- a thread has one task at a time
pub only_one : (c : Option ℕ) (m p : ℕ) → is_of c m ≡ true → is_of c p ≡ true → m ≡ p
only_one c m p a b = grind (arith, common_steps)

module _ (initial : ℕ → Bool) (held : List Row) (o : Row) (b : Bounded o) (a : Accepted initial held o) where
  thread_kept :
      (t : ℕ) (r : ThreadRecord) → ThreadMatches initial held t r → ThreadMatches initial (held ++ o ∷ []) t (after t o r)
  thread_kept t r m =
      let idle = some_busy 512 r.current (current held t) m.current_is m.current_small in
      let small = b.task_small begin refl in
      record {
        stage_is = grind (arith, some_push, common_steps);
        queue_is = grind (arith, some_push, common_steps);
        looping_is = grind (arith, some_push, common_steps);
        current_is = λ p. grind (arith, lasting_push, common_steps);
        current_small = λ p is. let old = m.current_small p in grind (arith, common_steps);
      }

  pub threads_kept :
      (threads : List ThreadRecord)
      → changed o < length threads
      → (t : ℕ)
      → ThreadMatches initial held t (thread_at threads t)
      → ThreadMatches initial (held ++ o ∷ []) t
      (thread_at (set threads (changed o) (stepped o (thread_at threads (changed o)))) t)
  threads_kept threads l t m =
      subst (ThreadMatches initial (held ++ o ∷ []) t) (sym (after_is t o threads l))
      (thread_kept t (thread_at threads t) m)
