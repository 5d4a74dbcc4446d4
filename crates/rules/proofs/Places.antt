-- Where in a list an operation stands that passes, or that starts what lasts.
use Rattle.std.proofs.Common.{◌≡◌, ℕ, zero, suc, ◌<◌, ◌≤◌, Bool, true, false, not, ◌&&◌, ◌⊎◌, List, [], ◌∷◌, length, take, sym, ap, ◌∙◌, inl, inr, ⊎_elim, arith}
use Rattle.std.proofs.lemmas.Grind.{common_steps}
use borrow.Author.Tests.{clash, not-true, both_ways}
use Rattle.std.proofs.lemmas.List.{get_or-take, length-take}
use Rattle.std.proofs.lemmas.Bool.{cases_Bool, and_parts, and_from, or_cases, or_left, or_right, not_from_false}
use Rattle.recording.specs.declared.row.Row.{Row}
use Rattle.happens_before.specs.Trace.{row, code}
use Rattle.recording.specs.Rows.{blank}
use Rattle.rules.specs.Acceptance.{some, lasting}

-- an operation with a code is held
pub coded_held : (xs : List Row) (k c : ℕ) → code xs k ≡ suc c → k < length xs
coded_held xs k c e = grind (arith, common_steps)

pub some_true : (p : Row → Bool) (xs : List Row) (k : ℕ) → k < length xs → p (row xs k) ≡ true → some p xs ≡ true
unfolding some
some_true p xs k l h = grind (arith, common_steps)

pub some_found :
    (p : Row → Bool) (xs : List Row) → some p xs ≡ true → (k : ℕ) × (k < length xs) × (p (row xs k) ≡ true)
unfolding some
some_found p [] h = absurd (clash h)
some_found p (x ∷ xs) h = go (or_cases (p x) (some p xs) h) (some_found p xs)
  where
    go :
        (p x ≡ true) ⊎ (some p xs ≡ true)
        → (some p xs ≡ true → (k : ℕ) × (k < length xs) × (p (row xs k) ≡ true))
        → (k : ℕ) × (k < suc (length xs)) × (p (row (x ∷ xs) k) ≡ true)
    go (inl e) rest = (0, omega arith, e)
    go (inr e) rest = let r = rest e in let l = r.1 in (suc r.0, omega arith, r.2)

pub some_false : (p : Row → Bool) (xs : List Row) → some p xs ≡ false → (k : ℕ) → k < length xs → p (row xs k) ≡ false
some_false p xs h k l =
    ⊎_elim (λ e. absurd (both_ways (some p xs) h (some_true p xs k l e))) (λ e. e) (cases_Bool (p (row xs k)))

-- k starts what none after it stops
abbrev pub Lasts : (Row → Bool) → (Row → Bool) → List Row → ℕ → Type 0
Lasts start stop xs k =
    (start (row xs k) ≡ true) × ((e : ℕ) → k < e → e < length xs → stop (row xs e) ≡ false)

pub lasting_true :
    (start stop : Row → Bool) (xs : List Row) (k : ℕ) → k < length xs → Lasts start stop xs k → lasting start stop xs ≡ true
unfolding lasting
lasting_true start stop [] k l h = let n : ⊥ = omega arith in absurd n
lasting_true start stop (x ∷ xs) zero l (s, h) =
    or_left (start x && not (some stop xs)) _
    (and_from (start x) _ s
    (⊎_elim
    (λ e.
    let r = some_found stop xs e in
    let u = r.1 in
    absurd (both_ways _ (h (suc r.0) (omega arith) (omega arith)) r.2))
    (not_from_false _)
    (cases_Bool (some stop xs))))
lasting_true start stop (x ∷ xs) (suc k) l (s, h) =
    or_right (start x && not (some stop xs)) _
    (lasting_true start stop xs k (omega arith) (s, λ e u v. h (suc e) (omega arith) (omega arith)))

pub lasting_found :
    (start stop : Row → Bool) (xs : List Row)
    → lasting start stop xs ≡ true
    → (k : ℕ) × (k < length xs) × Lasts start stop xs k
unfolding lasting
lasting_found start stop [] h = absurd (clash h)
lasting_found start stop (x ∷ xs) h =
    go (or_cases (start x && not (some stop xs)) _ h) (lasting_found start stop xs)
  where
    later : (e : ℕ) → some stop xs ≡ false → 0 < e → e < suc (length xs) → stop (row (x ∷ xs) e) ≡ false
    later zero h u v = let n : ⊥ = omega arith in absurd n
    later (suc e) h u v = some_false stop xs h e (omega arith)

    shift :
        (k : ℕ) → ((e : ℕ) → k < e → e < length xs → stop (row xs e) ≡ false)
        → (e : ℕ) → suc k < e → e < suc (length xs) → stop (row (x ∷ xs) e) ≡ false
    shift k h e u v = grind (arith, common_steps)

    go :
        ((start x && not (some stop xs)) ≡ true) ⊎ (lasting start stop xs ≡ true)
        → (lasting start stop xs ≡ true → (k : ℕ) × (k < length xs) × Lasts start stop xs k)
        → (k : ℕ) × (k < suc (length xs)) × Lasts start stop (x ∷ xs) k
    go (inl e) rest =
        let (s, o) = and_parts (start x) _ e in
        (0, omega arith, (s, λ e. later e (not-true _ o)))
    go (inr e) rest =
        let r = rest e in
        let l = r.1 in
        (suc r.0, omega arith, (r.2.0, shift r.0 r.2.1))

-- ---- Among the operations before n

module _ (xs : List Row) (n : ℕ) where
  pub row_before : (k : ℕ) → k < n → row (take n xs) k ≡ row xs k
  row_before k l = get_or-take n xs k blank l

  pub length_before : length (take n xs) ≤ n
  length_before = let e = length-take n xs in omega arith

  pub some_before : (p : Row → Bool) (k : ℕ) → k < n → k < length xs → p (row xs k) ≡ true → some p (take n xs) ≡ true
  some_before p k l u h =
      let e = length-take n xs in
      some_true p (take n xs) k (omega arith) (ap p (row_before k l) ∙ h)

  pub found_before :
      (p : Row → Bool)
      → some p (take n xs) ≡ true
      → (k : ℕ) × (k < n) × (k < length xs) × (p (row xs k) ≡ true)
  found_before p h =
      let r = some_found p (take n xs) h in
      let l = r.1 in
      let e = length-take n xs in
      let u : r.0 < n = omega arith in
      (r.0, u, omega arith, sym (ap p (row_before r.0 u)) ∙ r.2)

  -- k starts what none stops from there up to n
  pub lasting_before :
      (start stop : Row → Bool) (k : ℕ)
      → k < n
      → k < length xs
      → start (row xs k) ≡ true
      → ((e : ℕ) → k < e → e < n → stop (row xs e) ≡ false)
      → lasting start stop (take n xs) ≡ true
  lasting_before start stop k l u s h =
      let e = length-take n xs in
      lasting_true start stop (take n xs) k (omega arith) (
        ap start (row_before k l) ∙ s,
        λ e v w.
            let f = length_before in
            ap stop (row_before e (omega arith)) ∙ h e v (omega arith),
      )
