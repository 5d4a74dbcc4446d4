-- What one more held operation changes.
use Rattle.std.proofs.Common.{◌≡◌, ℕ, zero, suc, ◌<◌, Bool, true, false, not, ◌&&◌, ◌||◌, List, [], ◌∷◌, ◌++◌, sym, refl, ap, ◌∙◌, ⊎_elim, arith}
use Rattle.std.proofs.lemmas.Grind.{common_steps}
use Rattle.std.proofs.Math.Bool.{and-true, or-false, or-true}
use borrow.Author.Tests.{clash}
use Rattle.std.proofs.lemmas.Bool.{cases_eq}
use Rattle.recording.specs.declared.row.Row.{Row}
use Rattle.rules.specs.Acceptance.{some, lasting, some_below}

pub some_push : (p : Row → Bool) (held : List Row) (o : Row) → some p (held ++ o ∷ []) ≡ (some p held || p o)
unfolding some
some_push p held o = grind (arith, common_steps)

push_cases : (a b c d s : Bool) → ((a && not (b || s)) || ((c && not s) || d)) ≡ ((((a && not b) || c) && not s) || d)
push_cases a b c d s = grind (arith, common_steps)

pub lasting_push :
    (start stop : Row → Bool) (held : List Row) (o : Row)
    → lasting start stop (held ++ o ∷ []) ≡ ((lasting start stop held && not (stop o)) || start o)
unfolding lasting some
lasting_push start stop [] o = or-false (start o && true) ∙ and-true (start o)
lasting_push start stop (x ∷ held) o =
    (λ t. (start x && not (some_push stop held o t)) || lasting_push start stop held o t)
    ∙ push_cases (start x) (some stop held) (lasting start stop held) (start o) (stop o)

pub some_below_true : (n : ℕ) (p : ℕ → Bool) (k : ℕ) → k < n → p k ≡ true → some_below n p ≡ true
unfolding some_below
some_below_true zero p k l h = absurd (omega arith)
some_below_true (suc n) p k l h =
    ⊎_elim
    (λ (e : k ≡ n). ap (λ b. b || some_below n p) (ap p (sym e) ∙ h))
    (λ (ne : k ≡ n → ⊥). ap (λ b. p n || b) (some_below_true n p k (omega arith) h) ∙ or-true (p n))
    (cases_eq k n)

pub some_below_false : (n : ℕ) (p : ℕ → Bool) → ((k : ℕ) → k < n → p k ≡ false) → some_below n p ≡ false
unfolding some_below
some_below_false zero p h = refl
some_below_false (suc n) p h =
    (λ t. h n (omega arith) t || some_below_false n p (λ k l. h k (omega arith)) t)

pub some_below_found : (n : ℕ) (p : ℕ → Bool) → some_below n p ≡ true → (k : ℕ) × (k < n) × (p k ≡ true)
unfolding some_below
some_below_found zero p h = absurd (clash h)
some_below_found (suc n) p h = go (p n) refl h (some_below_found n p)
  where
    go :
        (b : Bool) → p n ≡ b → (b || some_below n p) ≡ true
        → (some_below n p ≡ true → (k : ℕ) × (k < n) × (p k ≡ true))
        → (k : ℕ) × (k < suc n) × (p k ≡ true)
    go b e h lower = grind (arith, common_steps)
