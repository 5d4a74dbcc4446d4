-- The holders still agree after one more operation.
use Rattle.std.proofs.Common.{◌≡◌, ℕ, ◌<◌, Bool, true, false, cond, not, ◌&&◌, ◌||◌, eqb, List, [], ◌∷◌, ◌++◌, length, Some, None, Option, sym, refl, subst, arith}
use Rattle.std.proofs.lemmas.Bool.{eqb-true}
use Rattle.std.proofs.lemmas.Grind.{common_steps}
use Rattle.recording.specs.Codes.{threadexit, acquire, release}
use Rattle.recording.specs.declared.row.Row.{Row}
use Rattle.rules.specs.Acceptance.{does, does_on, holds, held_by_another}
use Rattle.rules.specs.Options.{is_of}
use Rattle.rules.proofs.Pushes.{lasting_push}
use Rattle.tables.specs.Matches.{LockMatches}
use Rattle.tables.specs.Records.{holder_at}
use Rattle.tables.specs.Steps.{freed, relocked}
use Rattle.tables.proofs.Passed.{Bounded, Accepted}
use Rattle.tables.proofs.Verdicts.{some_other}

-- what the operation makes of the holder of lock k
abbrev after : ℕ → Row → Option ℕ → Option ℕ
after k o h =
    cond (eqb o.code acquire) (cond (eqb o.item k) (Some o.thread) h)
    (cond (eqb o.code release) (cond (eqb o.item k) None h)
    (cond (eqb o.code threadexit) (freed o.thread h) h))

after_is :
    (o : Row) (holders : List (Option ℕ)) (k : ℕ)
    → Bounded o
    → length holders ≡ 64
    → k < 64
    → holder_at (relocked o holders) k ≡ after k o (holder_at holders k)
after_is o holders k b whole l =
    let acquires = b.lock_small acquire refl in
    let releases = b.lock_small release refl in
    grind (arith, common_steps)

module _ (initial : ℕ → Bool) (held : List Row) (o : Row) (b : Bounded o) (a : Accepted initial held o) where
  module _ (k : ℕ) (h : Option ℕ) (m : LockMatches held k h) where
    -- an acquired lock was held by no other thread, and a released one by this one
    was_free : eqb o.code acquire ≡ true → eqb o.item k ≡ true → (t : ℕ) → is_of h t ≡ true → o.thread ≡ t
    was_free e here t is =
        let other = some_other 64 h (λ u. holds held u k) o.thread m.holder_is m.holder_small in
        let free = subst (λ j. held_by_another held o.thread j ≡ false) (eqb-true o.item k here) (a.free_before e) in
        grind (arith, common_steps)

    was_held : eqb o.code release ≡ true → eqb o.item k ≡ true → is_of h o.thread ≡ true
    was_held e here = let own = m.holder_is o.thread in grind (arith, common_steps)

    holder_kept :
        (t : ℕ)
        → is_of (after k o h) t
        ≡ ((is_of h t && not (does_on release t k o || does threadexit t o)) || does_on acquire t k o)
    holder_kept t = let free = was_free in let own = was_held in grind (arith, common_steps)

    lock_kept : LockMatches (held ++ o ∷ []) k (after k o h)
    lock_kept =
        record {
          holder_is =
              λ t.
              let kept = holder_kept t in
              let was = m.holder_is t in
              grind
              (arith, lasting_push (does_on acquire t k) (λ r. does_on release t k r || does threadexit t r) held o);
          holder_small = λ t is. let was = m.holder_small t in grind (arith, common_steps);
        }

  pub locks_kept :
      (holders : List (Option ℕ))
      → length holders ≡ 64
      → (k : ℕ)
      → k < 64
      → LockMatches held k (holder_at holders k)
      → LockMatches (held ++ o ∷ []) k (holder_at (relocked o holders) k)
  locks_kept holders whole k l m =
      subst (LockMatches (held ++ o ∷ []) k) (sym (after_is o holders k b whole l)) (lock_kept k (holder_at holders k) m)
