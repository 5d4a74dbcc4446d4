-- What small computed tests say.
use Rattle.std.proofs.Common.{◌≡◌, ℕ, ◌<◌, Bool, true, false, not, is_some, Some, None, Option, refl, ⊎_elim}
use mathlib.Core.Bool.{beq}
use borrow.Author.Tests.{not-true, not-false, both_ways, clash}
use Rattle.std.proofs.lemmas.Bool.{cases_Bool}
use Rattle.happens_before.proofs.Tested.{any_below, any_full}

pub none_from : {A : Type 0} (r : Option A) → not (is_some r) ≡ true → r ≡ None
none_from None h = refl
none_from (Some f) h = absurd (clash h)

-- ---- Two tests that agree on every number below n

abbrev pub agree_below : ℕ → (ℕ → Bool) → (ℕ → Bool) → Bool
agree_below n f g = not (any_below n (λ i. not (beq (f i) (g i))))

beq_same : (x y : Bool) → beq x y ≡ true → x ≡ y
beq_same true true h = refl
beq_same true false h = absurd (clash h)
beq_same false true h = absurd (clash h)
beq_same false false h = refl

pub agree_from : (n : ℕ) (f g : ℕ → Bool) → agree_below n f g ≡ true → (i : ℕ) → i < n → f i ≡ g i
agree_from n f g h i l =
    ⊎_elim
    (λ e. absurd (both_ways _ (not-true _ h) (any_full (λ i. not (beq (f i) (g i))) n i l e)))
    (λ e. beq_same _ _ (not-false _ e))
    (cases_Bool (not (beq (f i) (g i))))
