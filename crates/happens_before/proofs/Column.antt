-- One column of an ordering: which positions are before j, computed from j - 1 down to 0.
-- A list of answers begins at some position m: its first answer is that of m.
use Rattle.std.proofs.Common.{◌≡◌, ℕ, zero, suc, ◌<◌, ◌≤◌, Bool, true, false, cond, ◌&&◌, ◌||◌, eqb, ◌⊎◌, List, [], ◌∷◌, sym, refl, ap, ◌∙◌, subst, inl, inr, ⊎_elim, arith, eq-eqb, ne_eqb}
use Rattle.std.proofs.lemmas.Grind.{common_steps}
use borrow.Author.Tests.{clash}
use Rattle.std.proofs.lemmas.Bool.{and_from, or_cases, or_left, or_right, cases_eq}

abbrev pub bit : ℕ → ℕ → List Bool → Bool
bit m i [] = false
bit m i (c ∷ cs) = let rest = bit (suc m) i cs in cond (eqb i m) c rest

pub bit_here : (m : ℕ) (c : Bool) (cs : List Bool) → bit m m (c ∷ cs) ≡ c
bit_here m c cs = rw (eq-eqb m m refl) refl

pub bit_past : (m i : ℕ) (c : Bool) (cs : List Bool) → (i ≡ m → ⊥) → bit m i (c ∷ cs) ≡ bit (suc m) i cs
bit_past m i c cs n = rw (ne_eqb i m n) refl

pub bit_from : (m i : ℕ) (cs : List Bool) → bit m i cs ≡ true → m ≤ i
bit_from m i [] h = absurd (clash h)
bit_from m i (c ∷ cs) h =
    ⊎_elim
    (λ e. omega arith)
    (λ n. let k : suc m ≤ i = bit_from (suc m) i cs (sym (bit_past m i c cs n) ∙ h) in omega arith)
    (cases_eq i m)

-- base: what the rules give of themselves; T i k: i is before k, of the earlier columns; through i k: whether k passes i on
module _ (base : ℕ → Bool) (T through : ℕ → ℕ → Bool) where
  unfoldable pub reach : ℕ → ℕ → List Bool → Bool
  reach i m [] = false
  reach i m (c ∷ cs) =
      let passes = through i m in
      let known = T i m && passes in
      let rest = reach i (suc m) cs in
      (c && known) || rest

  unfoldable pub down : ℕ → List Bool → List Bool
  down zero acc = acc
  down (suc k) acc = let reached = reach k (suc k) acc in down k ((base k || reached) ∷ acc)

  unfoldable pub column : ℕ → List Bool
  column j = down j []

-- some k of the list passes i on
abbrev pub Reached : (T through : ℕ → ℕ → Bool) → ℕ → ℕ → List Bool → Type 0
Reached T through i m cs = (k : ℕ) × (bit m k cs ≡ true) × (T i k ≡ true) × (through i k ≡ true)

module _ (base : ℕ → Bool) (T through : ℕ → ℕ → Bool) where
  reach_sound : (i m : ℕ) (cs : List Bool) → reach base T through i m cs ≡ true → Reached T through i m cs
  unfolding reach
  reach_sound i m [] h = absurd (clash h)
  reach_sound i m (c ∷ cs) h = go (or_cases _ _ h) (reach_sound i (suc m) cs)
    where
      go :
          ((c && (T i m && through i m)) ≡ true) ⊎ (reach base T through i (suc m) cs ≡ true)
          → (reach base T through i (suc m) cs ≡ true → Reached T through i (suc m) cs)
          → Reached T through i m (c ∷ cs)
      go (inl e) _ = grind (arith, common_steps)
      go (inr e) ih =
          let r = ih e in
          let f : suc m ≤ r.0 = bit_from (suc m) r.0 cs r.1 in
          let n : r.0 ≡ m → ⊥ = omega arith in
          (r.0, bit_past m r.0 c cs n ∙ r.1, r.2, r.3)

  reach_full : (i m : ℕ) (cs : List Bool) → Reached T through i m cs → reach base T through i m cs ≡ true
  unfolding reach
  reach_full i m [] r = absurd (clash r.1)
  reach_full i m (c ∷ cs) r =
      ⊎_elim
      (λ e.
      or_left _ _
      (and_from c _
      (sym (bit_here m c cs) ∙ subst (λ k. bit m k (c ∷ cs) ≡ true) e r.1)
      (and_from (T i m) _ (subst (λ k. T i k ≡ true) e r.2) (subst (λ k. through i k ≡ true) e r.3))))
      (λ n. or_right _ _ (reach_full i (suc m) cs (r.0, sym (bit_past m r.0 c cs n) ∙ r.1, r.2, r.3)))
      (cases_eq r.0 m)

-- the lists on the way down from j
data Falling (base : ℕ → Bool) (T through : ℕ → ℕ → Bool) (j : ℕ) : ℕ → List Bool → Type 0 where
  top : Falling base T through j j []
  more :
      {k : ℕ} {acc : List Bool}
      → Falling base T through j (suc k) acc
      → Falling base T through j k ((base k || reach base T through k (suc k) acc) ∷ acc)

module _ (base : ℕ → Bool) (T through : ℕ → ℕ → Bool) (j : ℕ) where
  falls :
      (k : ℕ) (acc : List Bool)
      → Falling base T through j k acc
      → Falling base T through j zero (down base T through k acc)
  unfolding down
  falls zero acc c = c
  falls (suc k) acc c = falls k _ (more c)

  whole : Falling base T through j zero (column base T through j)
  unfolding column
  whole = falls j [] top

  falling_le : {k : ℕ} {acc : List Bool} → Falling base T through j k acc → k ≤ j
  falling_le top = omega arith
  falling_le (more c) = let h = falling_le c in omega arith

  falling_below : {k : ℕ} {acc : List Bool} → Falling base T through j k acc → (i : ℕ) → bit k i acc ≡ true → i < j
  falling_below top i h = absurd (clash h)
  falling_below (more {k = k} {acc = acc} c) i h =
      ⊎_elim
      (λ e. let l = falling_le c in omega arith)
      (λ n. falling_below c i (sym (bit_past k i _ acc n) ∙ h))
      (cases_eq i k)

  -- the rules give i, or a later position of the list passes it on
  Due : ℕ → ℕ → List Bool → Type 0
  Due i k acc =
      (base i ≡ true) ⊎ ((m : ℕ) × (i < m) × (bit k m acc ≡ true) × (T i m ≡ true) × (through i m ≡ true))

  falling_full :
      {k : ℕ} {acc : List Bool}
      → Falling base T through j k acc
      → (i : ℕ)
      → k ≤ i
      → i < j
      → Due i k acc
      → bit k i acc ≡ true
  unfolding Due
  falling_full top i l u h = let z : ⊥ = omega arith in absurd z
  falling_full (more {k = k} {acc = acc} c) i l u h = ⊎_elim (here h) (there h (falling_full c i)) (cases_eq i k)
    where
      B : Bool
      B = base k || reach base T through k (suc k) acc

      later : (m : ℕ) → i < m → bit k m (B ∷ acc) ≡ true → bit (suc k) m acc ≡ true
      later m im e = let n : m ≡ k → ⊥ = (λ q. omega arith) in sym (bit_past k m B acc n) ∙ e

      here : Due i k (B ∷ acc) → i ≡ k → bit k i (B ∷ acc) ≡ true
      here (inl b) e = rw e (bit_here k B acc ∙ or_left _ _ (subst (λ x. base x ≡ true) e b))
      here (inr r) e =
          rw e
          (bit_here k B acc
          ∙ or_right _ _
          (reach_full base T through k (suc k) acc (
            r.0,
            later r.0 r.1 r.2,
            subst (λ x. T x r.0 ≡ true) e r.3,
            subst (λ x. through x r.0 ≡ true) e r.4,
          )))

      there :
          Due i k (B ∷ acc)
          → (suc k ≤ i → i < j → Due i (suc k) acc → bit (suc k) i acc ≡ true)
          → (i ≡ k → ⊥)
          → bit k i (B ∷ acc) ≡ true
      there r ih n = grind (arith, common_steps)

  falling_least :
      (Q : ℕ → Type 0)
      → ((i : ℕ) → i < j → base i ≡ true → Q i)
      → ((i m : ℕ) → i < m → m < j → Q m → T i m ≡ true → through i m ≡ true → Q i)
      → {k : ℕ} {acc : List Bool}
      → Falling base T through j k acc
      → (i : ℕ)
      → bit k i acc ≡ true
      → Q i
  falling_least Q b s top i h = absurd (clash h)
  falling_least Q b s (more {k = k} {acc = acc} c) i h =
      ⊎_elim
      (λ e.
      subst Q (sym e)
      (go (or_cases _ _ (sym (bit_here k B acc) ∙ subst (λ x. bit k x (B ∷ acc) ≡ true) e h)) (falling_least Q b s c)))
      (λ n. falling_least Q b s c i (sym (bit_past k i B acc n) ∙ h))
      (cases_eq i k)
    where
      B : Bool
      B = base k || reach base T through k (suc k) acc

      go :
          (base k ≡ true) ⊎ (reach base T through k (suc k) acc ≡ true)
          → ((i : ℕ) → bit (suc k) i acc ≡ true → Q i)
          → Q k
      go (inl e) ih = b k (falling_le c) e
      go (inr e) ih =
          let r = reach_sound base T through k (suc k) acc e in
          s k r.0 (bit_from (suc k) r.0 acc r.1) (falling_below c r.0 r.1) (ih r.0 r.1) r.2 r.3

  -- ---- What the column holds

  pub column_below : (i : ℕ) → bit zero i (column base T through j) ≡ true → i < j
  column_below i h = falling_below whole i h

  pub column_base : (i : ℕ) → i < j → base i ≡ true → bit zero i (column base T through j) ≡ true
  unfolding Due
  column_base i l h = falling_full whole i (omega arith) l (inl h)

  pub column_through :
      (i m : ℕ)
      → i < m
      → bit zero m (column base T through j) ≡ true
      → T i m ≡ true
      → through i m ≡ true
      → bit zero i (column base T through j) ≡ true
  unfolding Due
  column_through i m l h t p =
      let mj : m < j = column_below m h in
      falling_full whole i (omega arith) (omega arith) (inr (m, l, h, t, p))

  -- nothing else is in it
  pub column_least :
      (Q : ℕ → Type 0)
      → ((i : ℕ) → i < j → base i ≡ true → Q i)
      → ((i m : ℕ) → i < m → m < j → Q m → T i m ≡ true → through i m ≡ true → Q i)
      → (i : ℕ)
      → bit zero i (column base T through j) ≡ true
      → Q i
  column_least Q b s i h = falling_least Q b s whole i h

-- the column asks only about positions below j
module _
    (base base' : ℕ → Bool) (T through through' : ℕ → ℕ → Bool) (j : ℕ)
    (same_base : (i : ℕ) → i < j → base i ≡ base' i)
    (same-through : (i k : ℕ) → i < j → k < j → through i k ≡ through' i k)
  where
    reach_same :
        {k : ℕ} {acc : List Bool}
        → Falling base T through j k acc
        → (i : ℕ)
        → i < j
        → reach base T through i k acc ≡ reach base' T through' i k acc
    unfolding reach
    reach_same top i l = refl
    reach_same (more {k = k} {acc = acc} c) i l =
        let u = falling_le base T through j c in
        rw (same-through i k l u, reach_same c i l) refl

    down_same :
        (k : ℕ) (acc : List Bool)
        → Falling base T through j k acc
        → down base T through k acc ≡ down base' T through' k acc
    unfolding down
    down_same zero acc c = refl
    down_same (suc k) acc c =
        let u = falling_le base T through j c in
        down_same k _ (more c)
        ∙ ap (λ b. down base' T through' k (b ∷ acc))
        (ap (λ b. b || reach base T through k (suc k) acc) (same_base k u)
        ∙ ap (λ r. base' k || r) (reach_same c k u))

    pub column_same : column base T through j ≡ column base' T through' j
    unfolding column
    column_same = down_same j [] top
