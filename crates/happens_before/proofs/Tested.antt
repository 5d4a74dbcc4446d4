-- A fact with a test that tells whether it holds. What stands behind `λ _.` is computed only where it is asked.
use Rattle.std.proofs.Common.{◌≡◌, ℕ, zero, suc, ◌<◌, ◌≤◌, Bool, true, false, not, ◌&&◌, ◌||◌, eqb, ltb, leb, ◌⊎◌, subst, ⊎_elim, arith, ltb-true, lt-ltb, eq-eqb, eqb-true, le-leb, leb-true}
use Rattle.std.proofs.lemmas.Grind.{common_steps}
use borrow.Author.Tests.{clash}
use Rattle.std.proofs.lemmas.Bool.{and_parts, and_from, or_cases, or_left, or_right, cases_eq}
use Rattle.std.proofs.lemmas.Bool.Decides.{Decides-not, Decides-or}

pub record Tested (P : Type 0) : Type 0 where
  pub answer : Bool
  pub sound : answer ≡ true → P
  pub full : P → answer ≡ true

-- two tests of facts that follow from one another
pub same_answer : {P Q : Type 0} (s : Tested P) (t : Tested Q) → (P → Q) → (Q → P) → s.answer ≡ t.answer
same_answer s t f g = grind (arith, common_steps)

abbrev pub holds : (b : Bool) → Tested (b ≡ true)
holds b = record { answer = b; sound = λ h. h; full = λ h. h }

abbrev pub equal : (a b : ℕ) → Tested (a ≡ b)
equal a b = record { answer = eqb a b; sound = eqb-true a b; full = eq-eqb a b }

abbrev pub at_most : (a b : ℕ) → Tested (a ≤ b)
at_most a b = record { answer = leb a b; sound = leb-true a b; full = le-leb a b }

abbrev pub less : (a b : ℕ) → Tested (a < b)
less a b = record { answer = ltb a b; sound = ltb-true a b; full = lt-ltb a b }

abbrev pub like : {P Q : Type 0} → (P → Q) → (Q → P) → Tested P → Tested Q
like f g t = record { answer = t.answer; sound = λ h. f (t.sound h); full = λ q. t.full (g q) }

abbrev pub both : {P Q : Type 0} → Tested P → (Unit {0} → Tested Q) → Tested (P × Q)
both s t =
    record {
      answer = let r = (t tt).answer in s.answer && r;
      sound = λ h. let e = and_parts s.answer (t tt).answer h in (s.sound e.0, (t tt).sound e.1);
      full = λ p. and_from s.answer (t tt).answer (s.full p.0) ((t tt).full p.1);
    }

abbrev pub three :
    {P Q S : Type 0} → Tested P → (Unit {0} → Tested Q) → (Unit {0} → Tested S) → Tested (P × Q × S)
three s t u = like (λ h. (h.0, h.1.0, h.1.1)) (λ h. (h.0, (h.1, h.2))) (both s (λ _. both (t tt) u))

abbrev pub four :
    {P Q S V : Type 0}
    → Tested P
    → (Unit {0} → Tested Q)
    → (Unit {0} → Tested S)
    → (Unit {0} → Tested V)
    → Tested (P × Q × S × V)
four s t u v =
    like (λ h. (h.0, h.1.0, h.1.1, h.1.2)) (λ h. (h.0, (h.1, h.2, h.3))) (both s (λ _. three (t tt) u v))

abbrev pub either : {P Q : Type 0} → Tested P → (Unit {0} → Tested Q) → Tested (P ⊎ Q)
either s t =
    record {
      answer = let r = (t tt).answer in s.answer || r;
      sound = (Decides-or s.answer (t tt).answer (s.sound, s.full) ((t tt).sound, (t tt).full)).0;
      full = (Decides-or s.answer (t tt).answer (s.sound, s.full) ((t tt).sound, (t tt).full)).1;
    }

abbrev pub never : {P : Type 0} → Tested P → Tested (P → ⊥)
never t =
    record {
      answer = not t.answer;
      sound = (Decides-not t.answer (t.sound, t.full)).0;
      full = (Decides-not t.answer (t.sound, t.full)).1;
    }

unfoldable pub any_below : ℕ → (ℕ → Bool) → Bool
any_below zero f = false
any_below (suc n) f = let rest = any_below n f in f n || rest

pub any_sound : (f : ℕ → Bool) (n : ℕ) → any_below n f ≡ true → (k : ℕ) × (k < n) × (f k ≡ true)
unfolding any_below
any_sound f zero h = absurd (clash h)
any_sound f (suc n) h = go (or_cases (f n) (any_below n f) h) (any_sound f n)
  where
    go :
        (f n ≡ true) ⊎ (any_below n f ≡ true)
        → (any_below n f ≡ true → (k : ℕ) × (k < n) × (f k ≡ true))
        → (k : ℕ) × (k < suc n) × (f k ≡ true)
    go e ih = grind (arith, common_steps)

pub any_full : (f : ℕ → Bool) (n k : ℕ) → k < n → f k ≡ true → any_below n f ≡ true
unfolding any_below
any_full f zero k l h = let z : ⊥ = omega arith in absurd z
any_full f (suc n) k l h =
    ⊎_elim
    (λ e. or_left (f n) _ (subst (λ x. f x ≡ true) e h))
    (λ ne. or_right (f n) _ (any_full f n k (omega arith) h))
    (cases_eq k n)

abbrev pub some_below : (n : ℕ) (P : ℕ → Type 0) → ((k : ℕ) → Tested (P k)) → Tested ((k : ℕ) × (k < n) × P k)
some_below n P t =
    record {
      answer = any_below n (λ k. (t k).answer);
      sound = λ h. let r = any_sound (λ k. (t k).answer) n h in (r.0, r.1, (t r.0).sound r.2);
      full = λ r. any_full (λ k. (t k).answer) n r.0 r.1 ((t r.0).full r.2);
    }

abbrev pub none_below : (n : ℕ) (P : ℕ → Type 0) → ((k : ℕ) → Tested (P k)) → Tested ((k : ℕ) → k < n → P k → ⊥)
none_below n P t = like (λ h k l p. h (k, l, p)) (λ h r. h r.0 r.1 r.2) (never (some_below n P t))
