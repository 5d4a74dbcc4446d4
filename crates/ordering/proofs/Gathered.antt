-- A loop that adds the positions at which something holds.
use Rattle.std.proofs.Common.{◌≡◌, ℕ, ◌+◌, ◌<◌, Bool, true, ◌&&◌, eqb, ltb, ◌⊎◌, ◌↔◌, sym, ◌∙◌, subst, inl, inr, ⊎_elim, arith, lt-ltb, eq-eqb, eqb-true}
use Rattle.std.proofs.lemmas.Bool.{cases_eq, and_parts, and_from, or_cases, or_left, or_right}
use Rattle.columns.specs.Positions.{with_position}

-- what is in the set: what was at first, and the positions below n at which it holds
abbrev pub SoFar : (ℕ → Type 0) → (ℕ → Type 0) → (ℕ → Bool) → ℕ → Type 0
SoFar First Each p n = (k : ℕ) → (p k ≡ true) ↔ (First k ⊎ ((k < n) × Each k))

module _ (First Each : ℕ → Type 0) (old : ℕ → Bool) (i : ℕ) where
  pub gather_yes :
      (new : ℕ → Bool) → SoFar First Each old i → ((k : ℕ) → new k ≡ with_position old i k) → i < 512 → Each i → SoFar First Each new (i + 1)
  gather_yes new so_far adds small here k = (
    λ e.
        ⊎_elim
        (λ (h : old k ≡ true). widen ((so_far k).0 h))
        (λ (h : (eqb k i && ltb i 512) ≡ true).
        let q : k ≡ i = eqb-true _ _ (and_parts (eqb k i) _ h).0 in
        inr (omega arith, subst Each (sym q) here))
        (or_cases (old k) _ (sym (adds k) ∙ e)),
    λ h. adds k ∙ into h,
  )
    where
      widen : First k ⊎ ((k < i) × Each k) → First k ⊎ ((k < i + 1) × Each k)
      widen (inl f) = inl f
      widen (inr (l, e)) = inr (omega arith, e)

      into : First k ⊎ ((k < i + 1) × Each k) → with_position old i k ≡ true
      into (inl f) = or_left _ _ ((so_far k).1 (inl f))
      into (inr (l, e)) =
          ⊎_elim
          (λ (q : k ≡ i). or_right (old k) _ (and_from _ _ (eq-eqb _ _ q) (lt-ltb _ _ small)))
          (λ (n : k ≡ i → ⊥). or_left _ _ ((so_far k).1 (inr (omega arith, e))))
          (cases_eq k i)

  pub gather_no : SoFar First Each old i → (Each i → ⊥) → SoFar First Each old (i + 1)
  gather_no so_far none k = (λ e. widen ((so_far k).0 e), λ h. (so_far k).1 (narrow h))
    where
      widen : First k ⊎ ((k < i) × Each k) → First k ⊎ ((k < i + 1) × Each k)
      widen (inl f) = inl f
      widen (inr (l, e)) = inr (omega arith, e)

      narrow : First k ⊎ ((k < i + 1) × Each k) → First k ⊎ ((k < i) × Each k)
      narrow (inl f) = inl f
      narrow (inr (l, e)) =
          let n : k ≡ i → ⊥ = λ q. none (subst Each q e) in
          inr (omega arith, e)
