-- The least closed ordering, computed column by column: what the rules give of a column, then what its positions pass on.
use Rattle.std.proofs.Common.{◌≡◌, ℕ, zero, suc, ◌<◌, ◌≤◌, Bool, true, false, cond, eqb, List, [], ◌∷◌, length, sym, refl, ap, ◌∙◌, ap₂, ⊎_elim, arith, eq-eqb, ne_eqb}
use borrow.Author.Tests.{clash}
use Rattle.std.proofs.lemmas.Bool.{cases_eq, cases_Bool}
use Rattle.recording.specs.declared.row.Row.{Row}
use Rattle.happens_before.specs.Order.{Precedence, Pairs}
use Rattle.happens_before.proofs.Column.{bit, column, down, reach, column_below, column_base, column_through, column_least, column_same}
use Rattle.happens_before.proofs.Rules.{base, test_base, test_queue_order, test_run_to_completion, base_sound, through}
use Rattle.happens_before.proofs.Tested.{any_below}
use Rattle.happens_before.proofs.Alike.{Alike, alike_refl, base_alike, through_alike}

-- the pairs of the columns 0 to n - 1, the newest first
abbrev pub look : List (List Bool) → Pairs
look [] i j = false
look (c ∷ t) i j =
    let here = bit zero i c in
    let rest = look t i j in
    cond (eqb j (length t)) here rest

look_here : (c : List Bool) (t : List (List Bool)) (i j : ℕ) → j ≡ length t → look (c ∷ t) i j ≡ bit zero i c
look_here c t i j e = rw (eq-eqb j (length t) e) refl

look_past : (c : List Bool) (t : List (List Bool)) (i j : ℕ) → (j ≡ length t → ⊥) → look (c ∷ t) i j ≡ look t i j
look_past c t i j n = rw (ne_eqb j (length t) n) refl

module _ (D : Precedence) (trace : List Row) where
  -- the column of j, of the columns before it
  unfoldable pub next : List (List Bool) → ℕ → List Bool
  next t j = column (λ i. base D trace (look t) i j) (look t) (through trace j) j

  unfoldable pub cols : ℕ → List (List Bool)
  cols zero = []
  cols (suc n) = let t = cols n in next t n ∷ t

  unfoldable pub hb : Pairs
  hb = look (cols (length trace))

-- `unfolding computed` opens all that the columns and hb are computed by
unfoldable pub computed : Precedence → List Row → List (List Bool)
unfolding cols next hb column down reach through base test_base test_queue_order test_run_to_completion any_below
computed D trace = cols D trace (length trace)

module _ (D : Precedence) (trace : List Row) where
  cols_length : (n : ℕ) → length (cols D trace n) ≡ n
  unfolding cols
  cols_length zero = refl
  cols_length (suc n) = ap suc (cols_length n)

  newest : Pairs
  newest i j = bit zero i (next D trace (cols D trace j) j)

  look_cols : (n i j : ℕ) → j < n → look (cols D trace n) i j ≡ newest i j
  unfolding cols newest
  look_cols zero i j l = let z : ⊥ = omega arith in absurd z
  look_cols (suc n) i j l =
      ⊎_elim
      (λ e. look_here _ _ i j (e ∙ sym (cols_length n)) ∙ rw e refl)
      (λ ne. look_past _ _ i j (λ q. ne (q ∙ cols_length n)) ∙ look_cols n i j (omega arith))
      (cases_eq j n)

  look_out : (n i j : ℕ) → look (cols D trace n) i j ≡ true → j < n
  unfolding cols
  look_out zero i j e = absurd (clash e)
  look_out (suc n) i j e =
      ⊎_elim
      (λ q. omega arith)
      (λ ne.
      let l : j < n = look_out n i j (sym (look_past _ _ i j (λ q. ne (q ∙ cols_length n))) ∙ e) in
      omega arith)
      (cases_eq j n)

  hb_newest : (i j : ℕ) → j < length trace → hb D trace i j ≡ newest i j
  unfolding hb
  hb_newest i j l = look_cols (length trace) i j l

  pub hb_rising : (i j : ℕ) → hb D trace i j ≡ true → (i < j) × (j < length trace)
  unfolding hb newest next
  hb_rising i j e =
      let l : j < length trace = look_out (length trace) i j e in
      (column_below _ _ _ j i (sym (hb_newest i j l) ∙ e), l)

  pub hb_outside : (i j : ℕ) → ((i < j) × (j < length trace) → ⊥) → hb D trace i j ≡ false
  hb_outside i j out = ⊎_elim (λ e. absurd (out (hb_rising i j e))) (λ e. e) (cases_Bool (hb D trace i j))

  pub hb_not_rising : (i j : ℕ) → j ≤ i → hb D trace i j ≡ false
  hb_not_rising i j l = hb_outside i j (λ r. let z : ⊥ = omega arith in z)

  pub hb_past : (i j : ℕ) → length trace ≤ j → hb D trace i j ≡ false
  hb_past i j l = hb_outside i j (λ r. let z : ⊥ = omega arith in z)

  -- the earlier columns are those of the whole trace
  module _ (j : ℕ) (lj : j < length trace) where
    earlier : (i k : ℕ) → k < j → look (cols D trace j) i k ≡ hb D trace i k
    earlier i k l = look_cols j i k l ∙ sym (hb_newest i k (omega arith))

    base_earlier : (i : ℕ) → base D trace (look (cols D trace j)) i j ≡ base D trace (hb D trace) i j
    base_earlier i = base_alike (length trace) trace trace (alike_refl _ trace) D _ _ i j lj earlier

    -- ---- What a column holds: what the rules give, what its positions pass on, and nothing else

    pub hb_base : (i : ℕ) → base D trace (hb D trace) i j ≡ true → hb D trace i j ≡ true
    unfolding newest next
    hb_base i e =
        hb_newest i j lj
        ∙ column_base _ _ _ j i (base_sound D trace (hb D trace) i j e).0 (base_earlier i ∙ e)

    pub hb_through :
        (i k : ℕ) → hb D trace i k ≡ true → hb D trace k j ≡ true → through trace j i k ≡ true → hb D trace i j ≡ true
    unfolding newest next
    hb_through i k p q t =
        let ik = (hb_rising i k p).0 in
        let kj = (hb_rising k j q).0 in
        hb_newest i j lj
        ∙ column_through _ _ _ j i k ik (sym (hb_newest k j lj) ∙ q) (earlier i k kj ∙ p) t

    pub hb_least :
        (Q : ℕ → Type 0)
        → ((i : ℕ) → base D trace (hb D trace) i j ≡ true → Q i)
        → ((i k : ℕ) → hb D trace i k ≡ true → k < j → Q k → through trace j i k ≡ true → Q i)
        → (i : ℕ)
        → hb D trace i j ≡ true
        → Q i
    unfolding newest next
    hb_least Q b s i e =
        column_least _ _ _ j Q
        (λ x l h. b x (sym (base_earlier x) ∙ h))
        (λ x k l u q t p. s x k (sym (earlier x k u) ∙ t) u q p)
        i (sym (hb_newest i j lj) ∙ e)

-- ---- Traces that are alike have the same columns

module _ (D : Precedence) (n : ℕ) (xs ys : List Row) (a : Alike n xs ys) where
  cols_alike : (m : ℕ) → m ≤ n → cols D xs m ≡ cols D ys m
  unfolding cols next
  cols_alike zero l = refl
  cols_alike (suc m) l =
      let t = cols D xs m in
      let ih = cols_alike m (omega arith) in
      ap₂ ◌∷◌
      (column_same _ _ (look t) _ _ m
      (λ i u. base_alike n xs ys a D (look t) (look t) i m l (λ k b v. refl))
      (λ i k u v. through_alike n xs ys a m i k l (omega arith) (omega arith))
      ∙ ap (λ s. column (λ i. base D ys (look s) i m) (look s) (through ys m) m) ih)
      ih

  pub hb_alike : n ≤ length xs → n ≤ length ys → (i j : ℕ) → j < n → hb D xs i j ≡ hb D ys i j
  unfolding newest
  hb_alike lx ly i j l =
      hb_newest D xs i j (omega arith)
      ∙ (sym (look_cols D xs (suc j) i j (omega arith))
      ∙ (ap (λ t. look t i j) (cols_alike (suc j) l)
      ∙ (look_cols D ys (suc j) i j (omega arith) ∙ sym (hb_newest D ys i j (omega arith)))))
