-- The task records still agree after one more operation.
use Rattle.std.proofs.Common.{◌≡◌, ℕ, ◌<◌, Bool, cond, ◌&&◌, ◌||◌, eqb, ltb, List, [], ◌∷◌, ◌++◌, length, sym, refl, subst, arith}
use Rattle.std.proofs.lemmas.Grind.{common_steps}
use Rattle.recording.specs.Codes.{post, begin}
use Rattle.recording.specs.declared.row.Row.{Row}
use Rattle.happens_before.specs.Trace.{row}
use Rattle.rules.specs.Acceptance.{is_on}
use Rattle.rules.proofs.Pushes.{some_push}
use Rattle.tables.specs.declared.tasks.TaskRecord.{TaskRecord}
use Rattle.tables.specs.Matches.{TaskMatches}
use Rattle.tables.specs.Records.{task_at}
use Rattle.tables.specs.Steps.{posted_at, retasked}
use Rattle.tables.proofs.Passed.{Bounded, Accepted}

-- what the operation makes of the record of task p
abbrev after : ℕ → Row → ℕ → TaskRecord → TaskRecord
after p o n r =
    record {
      posting = cond (is_on post p o) (posted_at n o.target) r.posting;
      begun = is_on begin p o || r.begun;
    }

after_is :
    (o : Row) (n : ℕ) (tasks : List TaskRecord) (p : ℕ)
    → Bounded o
    → length tasks ≡ 512
    → task_at (retasked o n tasks) p ≡ after p o n (task_at tasks p)
after_is o n tasks p b whole =
    let posts = b.task_small post refl in
    let begins = b.task_small begin refl in
    grind (arith, common_steps)

-- a post of p, also at the next position
position_push :
    (q : Row → Bool) (held : List Row) (o : Row) (x : ℕ)
    → ((ltb x (length held) && q (row held x)) || (eqb (length held) x && q o))
    ≡ (ltb x (length (held ++ o ∷ [])) && q (row (held ++ o ∷ []) x))
position_push q held o x = grind (arith, common_steps)

module _ (initial : ℕ → Bool) (held : List Row) (o : Row) (b : Bounded o) (a : Accepted initial held o) where
  task_kept :
      (p : ℕ) (r : TaskRecord)
      → length held < 512
      → TaskMatches held p r
      → TaskMatches (held ++ o ∷ []) p (after p o (length held) r)
  task_kept p r few m =
      let new = a.new_before in
      record {
        posted_is = grind (arith, some_push, common_steps);
        target_is = λ t. let was = m.target_is t in grind (arith, some_push, common_steps);
        position_is = λ x. let was = m.position_is x in grind (arith, position_push (is_on post p) held o x, common_steps);
        begun_is = grind (arith, some_push, common_steps);
      }

  pub tasks_kept :
      (tasks : List TaskRecord)
      → length tasks ≡ 512
      → length held < 512
      → (p : ℕ)
      → TaskMatches held p (task_at tasks p)
      → TaskMatches (held ++ o ∷ []) p (task_at (retasked o (length held) tasks) p)
  tasks_kept tasks whole few p m =
      subst (TaskMatches (held ++ o ∷ []) p) (sym (after_is o (length held) tasks p b whole))
      (task_kept p (task_at tasks p) few m)
