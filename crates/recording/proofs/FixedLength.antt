-- Lists whose length is known, number by number.
use Rattle.std.proofs.Common.{◌≡◌, ℕ, zero, suc, List, [], ◌∷◌, length, arith}
use native.Mathlib.Nat.{suc_inj}

-- what holds of each list of n numbers, said number by number
abbrev pub Of : ℕ → (List ℕ → Type 0) → Type 0
Of zero P = P []
Of (suc n) P = (x : ℕ) → Of n (λ xs. P (x ∷ xs))

pub of_length : (n : ℕ) (P : List ℕ → Type 0) → Of n P → (b : List ℕ) → length b ≡ n → P b
of_length zero P t [] e = t
of_length zero P t (x ∷ xs) e = absurd (omega arith)
of_length (suc n) P t [] e = absurd (omega arith)
of_length (suc n) P t (x ∷ xs) e = of_length n (λ ys. P (x ∷ ys)) (t x) xs (suc_inj e)
