-- The turns of the descending pass.
use Rattle.std.proofs.Common.{◌≡◌, ℕ, suc, ◌≤◌, Bool, true, false, ◌||◌, List, sym, refl, ap, ◌∙◌, arith}
use mathlib.Core.Bool.{or-false, and-true}
use native.Mathlib.Decide.{le_ind}
use Rattle.columns.specs.declared.column.Column.{Column}
use Rattle.columns.specs.Positions.{has, Holds, union, except, Lacks, LastBelow}
use Rattle.columns.specs.Sweep.{column_at, joined, swept}

module _ (cs : List Column) (own : ℕ → Bool) where
  -- a position that p lacks changes nothing
  passed : (p : ℕ → Bool) (k : ℕ) → p k ≡ false → swept cs own k p ≡ swept cs own (suc k) p
  passed p k lacks = ap (swept cs own k) (λ t i. same i t)
    where
      same : (i : ℕ) → p i ≡ joined cs own k p i
      same i = rw (lacks, joined) (sym (or-false (p i)))

  pub all_passed : (p : ℕ → Bool) (from end : ℕ) → from ≤ end → Lacks p from end → swept cs own from p ≡ swept cs own end p
  all_passed p from end h =
      le_ind (λ n. Lacks p from n → swept cs own from p ≡ swept cs own n p)
      (λ lacks. refl)
      (λ n l e lacks. e (λ k a b. lacks k a (omega arith)) ∙ passed p n (lacks n l (omega arith)))
      end h

  -- the column of k, the highest position of p below end, is taken in, whole or in part
  module _ (p : ℕ → Bool) (end k : ℕ) (last : LastBelow p end k) where
    turn : (q : ℕ → Bool) → ((i : ℕ) → q i ≡ joined cs own k p i) → swept cs own k q ≡ swept cs own end p
    turn q each = ap (swept cs own k) (λ t i. each i t) ∙ all_passed p (suc k) end last.0 last.2

    pub taken_in :
        (new : Column) → own k ≡ true → Holds new (union p (has (column_at cs k))) → swept cs own k (has new) ≡ swept cs own end p
    taken_in new in-own holds =
        turn (has new) (λ i. rw (last.1, in-own, joined) (holds i ∙ ap (λ t. p i || t) (sym (and-true _))))

    pub taken_in_part :
        (new : Column) → own k ≡ false → Holds new (union p (except (has (column_at cs k)) own)) → swept cs own k (has new) ≡ swept cs own end p
    taken_in_part new not_own holds = turn (has new) (λ i. rw (last.1, not_own, joined) (holds i))
