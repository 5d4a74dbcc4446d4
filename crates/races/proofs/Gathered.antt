-- Race rows gathered by rising numbers: their count, their members and their order.
use Rattle.std.proofs.Common.{◌≡◌, ℕ, zero, suc, ◌+◌, ◌<◌, ◌≤◌, Bool, true, false, cond, ◌⊎◌, List, [], ◌∷◌, ◌++◌, length, get_or, drop, set, sym, refl, ap, ◌∙◌, subst, inl, inr, ⊎_elim, add-one, zero-add, map, ◌*◌, suc-mul, arith, length-append, drop-cons}
use lib.Seq.{set_at}
use Rattle.std.proofs.lemmas.List.{append_assoc, append-nil}
use Rattle.std.specs.List.{sum, range_with_len}
use Rattle.std.proofs.lemmas.List.FromFn.{sum_by-map-range_with_len_more}
use Rattle.std.proofs.lemmas.Bool.{cases_eq}
use Rattle.rules.specs.Answers.{In, here, there, Rises, Rising}
use Rattle.rules.specs.declared.race.RaceRow.{RaceRow}
use Rattle.races.specs.Listing.{gathered}

-- ---- Lists that are joined

pub in_left : (r : RaceRow) (xs ys : List RaceRow) → In r xs → In r (xs ++ ys)
in_left r [] ys i = elim i [ ]
in_left r (x ∷ xs) ys here = here
in_left r (x ∷ xs) ys (there i) = there (in_left r xs ys i)

pub in_right : (r : RaceRow) (xs ys : List RaceRow) → In r ys → In r (xs ++ ys)
in_right r [] ys i = i
in_right r (x ∷ xs) ys i = there (in_right r xs ys i)

pub in_either : (r : RaceRow) (xs ys : List RaceRow) → In r (xs ++ ys) → In r xs ⊎ In r ys
in_either r [] ys i = inr i
in_either r (x ∷ xs) ys here = inl here
in_either r (x ∷ xs) ys (there i) = ⊎_elim (λ h. inl (there h)) (λ h. inr h) (in_either r xs ys i)

pub rising_append :
    (xs ys : List RaceRow)
    → Rising xs
    → Rising ys
    → ((q r : RaceRow) → In q xs → In r ys → Rises q r)
    → Rising (xs ++ ys)
rising_append [] ys h g between = g
rising_append (x ∷ xs) ys (first, h) g between = (
  λ r i. ⊎_elim (λ k. first r k) (λ k. between x r here k) (in_either r xs ys i),
  rising_append xs ys h g (λ q r i j. between q r (there i) j),
)

-- ---- One row, or none

pub in_cond : (b : Bool) (r x : RaceRow) → In r (cond b (x ∷ []) []) → (b ≡ true) × (r ≡ x)
in_cond true r x here = (refl, refl)
in_cond true r x (there i) = elim i [ ]
in_cond false r x i = elim i [ ]

pub length_cond : (b : Bool) (x : RaceRow) → length (cond b (x ∷ []) []) ≤ 1
length_cond true x = omega arith
length_cond false x = omega arith

pub rising_cond : (b : Bool) (x : RaceRow) → Rising (cond b (x ∷ []) [])
rising_cond true x = (λ r i. elim i [ ], tt)
rising_cond false x = tt

-- one place more is written
pub put_next :
    (front old : List RaceRow) (n : ℕ) (v : RaceRow)
    → length front ≡ n
    → n < length old
    → set (front ++ drop n old) n v ≡ (front ++ v ∷ []) ++ drop (n + 1) old
put_next front old n v e l =
    ap (λ d. set (front ++ d) n v) (drop-cons old n v l)
    ∙ (set_at front (get_or old n v) (drop (suc n) old) v n e
    ∙ (ap (λ k. front ++ v ∷ drop k old) (sym (add-one n)) ∙ sym (append_assoc front (v ∷ []) (drop (n + 1) old))))

-- ---- Counts

module _ (f : ℕ → List RaceRow) where
  pub gathered_none : gathered f 0 ≡ []
  unfolding gathered
  gathered_none = refl

  pub gathered_more : (n : ℕ) → gathered f (n + 1) ≡ gathered f n ++ f n
  unfolding gathered
  gathered_more n = rw add-one refl

  pub gathered_with : (n : ℕ) (x : RaceRow) → f n ≡ x ∷ [] → gathered f (n + 1) ≡ gathered f n ++ x ∷ []
  gathered_with n x e = gathered_more n ∙ ap (λ xs. gathered f n ++ xs) e

  pub gathered_without : (n : ℕ) → f n ≡ [] → gathered f (n + 1) ≡ gathered f n
  gathered_without n e = gathered_more n ∙ (ap (λ xs. gathered f n ++ xs) e ∙ append-nil (gathered f n))

  pub gathered_nothing : (n : ℕ) → ((k : ℕ) → f k ≡ []) → gathered f n ≡ []
  unfolding gathered
  gathered_nothing zero none = refl
  gathered_nothing (suc n) none = λ t. gathered_nothing n none t ++ none n t

  pub gathered_longer : (m n : ℕ) → m ≤ n → length (gathered f m) ≤ length (gathered f n)
  unfolding gathered
  gathered_longer m zero l = let e : m ≡ 0 = omega arith in rw e (omega arith)
  gathered_longer m (suc n) l =
      ⊎_elim (λ e. rw e (omega arith))
      (λ ne.
      let h = gathered_longer m n (omega arith) in
      let e = length-append (gathered f n) (f n) in
      omega arith)
      (cases_eq m (suc n))

  pub gathered_sum : (n : ℕ) → sum (map (λ k. length (f k)) (range_with_len 0 n)) ≡ length (gathered f n)
  gathered_sum zero = sym (ap length gathered_none)
  gathered_sum (suc n) =
      let lengths : ℕ → ℕ = λ m. sum (map (λ k. length (f k)) (range_with_len 0 m)) in
      ap lengths (sym (add-one n))
      ∙ sum_by-map-range_with_len_more (λ x. x) (λ k. length (f k)) 0 n n (zero-add n)
      ∙ ap (λ m. m + length (f n)) (gathered_sum n)
      ∙ sym (length-append (gathered f n) (f n))
      ∙ sym (ap length (gathered_more n))
      ∙ ap (λ m. length (gathered f m)) (add-one n)

  pub gathered_few : (m n : ℕ) → ((k : ℕ) → k < n → length (f k) ≤ m) → length (gathered f n) ≤ n * m
  gathered_few m zero each = let e = ap length gathered_none in omega arith
  gathered_few m (suc n) each =
      let grown : length (gathered f (suc n)) ≡ length (gathered f n) + length (f n) =
      ap (λ m. length (gathered f m)) (sym (add-one n)) ∙ ap length (gathered_more n) ∙ length-append (gathered f n) (f n) in
      let h = gathered_few m n (λ k l. each k (omega arith)) in
      let l = each n (omega arith) in
      let e : suc n * m ≡ n * m + m = suc-mul n m in
      omega arith

  -- ---- Members

  pub gathered_from : (r : RaceRow) (n : ℕ) → In r (gathered f n) → (k : ℕ) × (k < n) × In r (f k)
  unfolding gathered
  gathered_from r zero i = elim i [ ]
  gathered_from r (suc n) i =
      ⊎_elim
      (λ h. let (k, l, m) = gathered_from r n h in (k, omega arith, m))
      (λ h. (n, omega arith, h))
      (in_either r (gathered f n) (f n) i)

  pub gathered_has : (r : RaceRow) (n k : ℕ) → k < n → In r (f k) → In r (gathered f n)
  unfolding gathered
  gathered_has r zero k l i = let z : ⊥ = omega arith in absurd z
  gathered_has r (suc n) k l i =
      ⊎_elim
      (λ e. in_right r (gathered f n) (f n) (subst (λ k. In r (f k)) e i))
      (λ ne. in_left r (gathered f n) (f n) (gathered_has r n k (omega arith) i))
      (cases_eq k n)

  -- ---- Order

  pub gathered_rising :
      ((k : ℕ) → Rising (f k))
      → ((k m : ℕ) (q r : RaceRow) → k < m → In q (f k) → In r (f m) → Rises q r)
      → (n : ℕ)
      → Rising (gathered f n)
  unfolding gathered
  gathered_rising each between zero = tt
  gathered_rising each between (suc n) =
      rising_append (gathered f n) (f n) (gathered_rising each between n) (each n)
      (λ q r i j. let (k, l, h) = gathered_from q n i in between k n q r l h j)
