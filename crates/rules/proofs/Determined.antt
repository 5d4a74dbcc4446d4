-- The definitions allow one answer to each call, and one outcome of each run.
use Rattle.std.proofs.Common.{◌≡◌, ℕ, ◌<◌, ◌&&◌, ltb, ◌⊎◌, List, [], ◌∷◌, ◌++◌, length, drop, Some, None, Option, sym, refl, ap, ◌∙◌, subst, inl, inr, ⊎_elim, arith}
use Rattle.std.proofs.lemmas.Grind.{common_steps}
use Rattle.std.proofs.lemmas.Bool.Decides.{same_from_decides}
use Rattle.recording.specs.declared.row.Row.{Row}
use Rattle.columns.proofs.Counts.{tally_same}
use Rattle.happens_before.specs.Order.{Precedence, Pairs, Closed, Before as IsBefore}
use Rattle.happens_before.proofs.Races.{class_one}
use Rattle.rules.specs.declared.faults.StateFault.{StateFault}
use Rattle.rules.specs.declared.order.Order.{Order}
use Rattle.rules.specs.declared.race.RaceRow.{RaceRow}
use Rattle.rules.specs.Acceptance.{Setting, refusal}
use Rattle.rules.specs.Answers.{Count, Ordered, same, before, after, unordered, Classed, no_race, race, In, here, there, Rises, Rising, RaceList}
use Rattle.rules.specs.Runs.{Call, Answer, added, ordered, classed, listed, needs, Step, adds, refuses, cuts, cuts_not, orders, orders_not, classes, classes_not, lists, lists_not, Run, done, next}

-- ---- Counts

pub count_one : (n : ℕ) (P : ℕ → Type 0) (c d : ℕ) → Count n P c → Count n P d → c ≡ d
count_one n P c d a b =
    a.counted
    ∙ (tally_same a.test b.test n (λ k l. same_from_decides (a.test k) (b.test k) (a.tells k l) (b.tells k l))
    ∙ sym b.counted)

-- ---- Order

-- all rising pairs of held positions
rising_pairs : List Row → Pairs
rising_pairs held i j = ltb i j && ltb j (length held)

rising_closed : (D : Precedence) (held : List Row) → Closed D held (rising_pairs held)
unfolding rising_pairs
rising_closed D held = grind (arith, common_steps)

pub before_rises : (D : Precedence) (held : List Row) (i j : ℕ) → IsBefore D held i j → i < j
before_rises D held i j b = ((rising_closed D held).rising i j (b (rising_pairs held) (rising_closed D held))).0

module _ (D : Precedence) (held : List Row) (i j : ℕ) where
  pub ordered_one : {v w : Order} → Ordered D held i j v → Ordered D held i j w → v ≡ w
  ordered_one (same e) (same f) = refl
  ordered_one (same e) (before b) = let l = before_rises D held i j b in absurd (omega arith)
  ordered_one (same e) (after b) = let l = before_rises D held j i b in absurd (omega arith)
  ordered_one (same e) (unordered n x y) = absurd (n e)
  ordered_one (before a) (same f) = let l = before_rises D held i j a in absurd (omega arith)
  ordered_one (before a) (before b) = refl
  ordered_one (before a) (after b) =
      let l = before_rises D held i j a in
      let u = before_rises D held j i b in
      absurd (omega arith)
  ordered_one (before a) (unordered n x y) = absurd (x a)
  ordered_one (after a) (same f) = let l = before_rises D held j i a in absurd (omega arith)
  ordered_one (after a) (before b) =
      let l = before_rises D held j i a in
      let u = before_rises D held i j b in
      absurd (omega arith)
  ordered_one (after a) (after b) = refl
  ordered_one (after a) (unordered n x y) = absurd (y a)
  ordered_one (unordered n x y) (same f) = absurd (n f)
  ordered_one (unordered n x y) (before b) = absurd (x b)
  ordered_one (unordered n x y) (after b) = absurd (y b)
  ordered_one (unordered n x y) (unordered m u v) = refl

  pub classed_one : {c d : ℕ} → Classed D held i j c → Classed D held i j d → c ≡ d
  classed_one (no_race n) (no_race m) = refl
  classed_one (no_race n) (race r k) = absurd (n r)
  classed_one (race r k) (no_race n) = absurd (n r)
  classed_one (race r k) (race q h) = class_one D held _ _ _ _ k h

-- ---- Race lists

in_cases : (r q : RaceRow) (rows : List RaceRow) → In r (q ∷ rows) → (r ≡ q) ⊎ In r rows
in_cases r q rows here = inl refl
in_cases r q rows (there i) = inr i

rises_not : (q r : RaceRow) → Rises q r → Rises r q → ⊥
rises_not q r a b = grind (arith, common_steps)

rises_self : (q r : RaceRow) → Rises q r → r ≡ q → ⊥
rises_self q r h e = rises_not q r h (subst (λ x. Rises x q) (sym e) (subst (Rises q) e h))

-- rising lists with the same members
pub rising_one :
    (xs ys : List RaceRow)
    → Rising xs
    → Rising ys
    → ((r : RaceRow) → In r xs → In r ys)
    → ((r : RaceRow) → In r ys → In r xs)
    → xs ≡ ys
rising_one [] [] h g to back = refl
rising_one [] (y ∷ ys) h g to back = elim (back y here) [ ]
rising_one (x ∷ xs) [] h g to back = elim (to x here) [ ]
rising_one (x ∷ xs) (y ∷ ys) h g to back =
    λ t. heads t ∷ rising_one xs ys h.1 g.1 tail_to tail_back t
  where
    heads : x ≡ y
    heads =
        ⊎_elim (λ e. e)
        (λ i.
        ⊎_elim (λ e. sym e)
        (λ k. absurd (rises_not x y (h.0 y k) (g.0 x i)))
        (in_cases y x xs (back y here)))
        (in_cases x y ys (to x here))

    tail_to : (r : RaceRow) → In r xs → In r ys
    tail_to r i =
        ⊎_elim (λ e. absurd (rises_self x r (h.0 r i) (e ∙ sym heads))) (λ k. k) (in_cases r y ys (to r (there i)))

    tail_back : (r : RaceRow) → In r ys → In r xs
    tail_back r i =
        ⊎_elim (λ e. absurd (rises_self y r (g.0 r i) (e ∙ heads))) (λ k. k) (in_cases r x xs (back r (there i)))

module _ (D : Precedence) (held : List Row) where
  members : (xs ys : List RaceRow) → RaceList D held xs → RaceList D held ys → (r : RaceRow) → In r xs → In r ys
  members xs ys a b r i =
      let (is, k) = a.races r i in
      let (c, q) = b.all r.earlier r.later is in
      let h = (b.races (record { earlier = r.earlier; later = r.later; class = c }) q).1 in
      subst (λ c. In (record { earlier = r.earlier; later = r.later; class = c }) ys)
      (class_one D held r.earlier r.later c r.class h k) q

  pub list_one : (xs ys : List RaceRow) → RaceList D held xs → RaceList D held ys → xs ≡ ys
  list_one xs ys a b = rising_one xs ys a.rising b.rising (members xs ys a b) (members ys xs b a)

-- ---- Steps and runs

not_both : (o : Option StateFault) (f : StateFault) → o ≡ None → o ≡ Some f → ⊥
not_both o f e g = let z : ◌≡◌ {A = ℕ} 0 1 = cc in omega arith

module _ (s : Setting) (held : List Row) where
  pub step_one :
      {c : Call} {a b : Answer} {left left' : List Row}
      → Step s held c a left
      → Step s held c b left'
      → (a ≡ b) × (left ≡ left')
  step_one (adds {o = o} e n) (adds f m) = (ap (added (length held)) (count_one _ _ _ _ n m), refl)
  step_one (adds {o = o} e n) (refuses f) = absurd (not_both (refusal s held o) _ e f)
  step_one (refuses {o = o} e) (adds f m) = absurd (not_both (refusal s held o) _ f e)
  step_one (refuses {o = o} {f = x} e) (refuses {f = y} f) = grind (arith, common_steps)
  step_one (cuts l) (cuts u) = (refl, refl)
  step_one (cuts l) (cuts_not u) = absurd (omega arith)
  step_one (cuts_not l) (cuts u) = absurd (omega arith)
  step_one (cuts_not l) (cuts_not u) = (refl, refl)
  step_one (orders {i = i} {j = j} l u w) (orders l' u' w') =
      (ap ordered (ordered_one s.precedence held i j w w'), refl)
  step_one (orders l u w) (orders_not n) = absurd (omega arith)
  step_one (orders_not n) (orders l u w) = absurd (omega arith)
  step_one (orders_not n) (orders_not m) = (refl, refl)
  step_one (classes {i = i} {j = j} l u w) (classes l' u' w') =
      (ap classed (classed_one s.precedence held i j w w'), refl)
  step_one (classes l u w) (classes_not n) = absurd (omega arith)
  step_one (classes_not n) (classes l u w) = absurd (omega arith)
  step_one (classes_not n) (classes_not m) = (refl, refl)
  step_one (lists {places = p} {races = x} r l) (lists {races = y} q u) =
      (ap (λ (x : List RaceRow). listed (length x) (x ++ drop (length x) p)) (list_one s.precedence held x y r q), refl)
  step_one (lists {races = x} r l) (lists_not {races = y} q u) =
      let e = ap length (list_one s.precedence held x y r q) in
      absurd (omega arith)
  step_one (lists_not {races = x} r l) (lists {races = y} q u) =
      let e = ap length (list_one s.precedence held x y r q) in
      absurd (omega arith)
  step_one (lists_not {places = p} {races = x} r l) (lists_not {races = y} q u) =
      (ap (λ (x : List RaceRow). needs (length x) p) (list_one s.precedence held x y r q), refl)

pub run_one :
    (s : Setting) {held : List Row} {calls : List Call} {answers answers' : List Answer} {left left' : List Row}
    → Run s held calls answers left
    → Run s held calls answers' left'
    → (answers ≡ answers') × (left ≡ left')
run_one s done done = (refl, refl)
run_one s (next {held = held} x xs) (next {after = left} {calls = calls} {answers = answers} y ys) =
    let (e, f) = step_one s held x y in
    let (g, h) = run_one s xs (subst (λ b. Run s b calls answers left) (sym f) ys) in
    (λ t. e t ∷ g t, h)
