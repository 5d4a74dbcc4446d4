-- What is before each position, as listed: it is compared with the computed order.
use Rattle.std.proofs.Common.{◌≡◌, ℕ, zero, suc, ◌+◌, ◌^◌, ◌<◌, ◌≤◌, Bool, true, false, ◌&&◌, eqb, ltb, ◌↔◌, List, [], ◌∷◌, length, get_or, sym, ap, ◌∙◌, subst, ⊎_elim, arith, ltb-true, eqb-true}
use borrow.Author.Tests.{clash}
use Rattle.std.proofs.lemmas.List.{get_or_past, length-map}
use Rattle.std.proofs.lemmas.Bool.{and_parts, or_cases, cases_lt}
use Rattle.recording.specs.Rows.{blank}
use Rattle.recording.specs.declared.row.Row.{Row}
use Rattle.columns.specs.Positions.{bit, tally}
use Rattle.happens_before.specs.Order.{Before}
use Rattle.happens_before.specs.Theorems.{PostedFirst}
use Rattle.happens_before.proofs.Columns.{look, hb, computed, hb_not_rising, hb_past}
use Rattle.happens_before.proofs.Least.{before_hb}
use Rattle.races.proofs.Nearests.{ne_true}
use Rattle.worked.proofs.Tests.{agree_below, agree_from}
use Rattle.worked.specs.Recordings.{Example, operations, listed_before, precedence, among}

-- ---- The positions listed beside position j

abbrev within : ℕ → List ℕ → Bool
within j [] = true
within j (k ∷ ks) = ltb k j && within j ks

within_from : (j : ℕ) (ks : List ℕ) → within j ks ≡ true → (i : ℕ) → among i ks ≡ true → i < j
within_from j [] h i e = absurd (clash e)
within_from j (k ∷ ks) h i e =
    let (l, r) = and_parts (ltb k j) _ h in
    ⊎_elim
    (λ q. subst (λ x. x < j) (sym (eqb-true i k q)) (ltb-true k j l))
    (λ q. within_from j ks r i q)
    (or_cases (eqb i k) _ e)

-- as bits of a word
abbrev pub word_of : List ℕ → ℕ
word_of [] = 0
word_of (k ∷ ks) = 2 ^ k + word_of ks

-- against the computed columns t
pub record RightLine (t : List (List Bool)) (j : ℕ) (ks : List ℕ) : Type 0 where
  pub below : (i : ℕ) → among i ks ≡ true → i < j
  pub counted : length ks ≡ tally (λ i. among i ks) j
  pub same : (i : ℕ) → i < j → look t i j ≡ among i ks
  pub word : (i : ℕ) → i < 64 → bit (word_of ks) i ≡ among i ks

abbrev right_line : List (List Bool) → ℕ → List ℕ → Bool
right_line t j ks =
    let w = word_of ks in
    within j ks
    && (eqb (length ks) (tally (λ i. among i ks) j)
    && (agree_below j (λ i. look t i j) (λ i. among i ks) && agree_below 64 (bit w) (λ i. among i ks)))

right_line_from : (t : List (List Bool)) (j : ℕ) (ks : List ℕ) → right_line t j ks ≡ true → RightLine t j ks
right_line_from t j ks h =
    let (a, h₁) = and_parts (within j ks) _ h in
    let (b, h₂) = and_parts (eqb (length ks) _) _ h₁ in
    let (c, d) = and_parts (agree_below j (λ i. look t i j) (λ i. among i ks)) _ h₂ in
    record {
      below = within_from j ks a;
      counted = eqb-true _ _ b;
      same = agree_from j _ _ c;
      word = agree_from 64 _ _ d;
    }

unfoldable pub right_lines : List (List Bool) → ℕ → List (Row × List ℕ) → Bool
right_lines t j [] = true
right_lines t j (l ∷ lines) = let rest = right_lines t (suc j) lines in right_line t j l.1 && rest

pub right_lines_from :
    (t : List (List Bool)) (j : ℕ) (lines : List (Row × List ℕ))
    → right_lines t j lines ≡ true
    → (k : ℕ)
    → k < length lines
    → RightLine t (j + k) (get_or lines k (blank, [])).1
unfolding right_lines
right_lines_from t j [] h k u = let z : ⊥ = omega arith in absurd z
right_lines_from t j (l ∷ lines) h zero u =
    let (a, _) = and_parts (right_line t j l.1) _ h in
    let e : j ≡ j + 0 = omega arith in
    subst (λ x. RightLine t x l.1) e (right_line_from t j l.1 a)
right_lines_from t j (l ∷ lines) h (suc k) u =
    let (_, b) = and_parts (right_line t j l.1) _ h in
    let e : suc j + k ≡ j + suc k = omega arith in
    subst (λ x. RightLine t x (get_or lines k (blank, [])).1) e (right_lines_from t (suc j) lines b k (omega arith))

-- ---- So the computed order is the listed one

abbrev pub right_order : Example → Bool
right_order e = right_lines (computed (precedence e) (operations e)) 0 e.lines

module _ (e : Example) (right : right_order e ≡ true) where
  pub line_at :
      (j : ℕ)
      → j < length (operations e)
      → RightLine (computed (precedence e) (operations e)) j (listed_before e j)
  line_at j u =
      let n = length-map e.lines (λ l. l.0) in
      let z : 0 + j ≡ j = omega arith in
      subst (λ x. RightLine (computed (precedence e) (operations e)) x (listed_before e j)) z
      (right_lines_from _ 0 e.lines right j (omega arith))

  none_past : (i j : ℕ) → length (operations e) ≤ j → among i (listed_before e j) ≡ false
  none_past i j u =
      let n = length-map e.lines (λ l. l.0) in
      ap (λ (l : Row × List ℕ). among i l.1) (get_or_past e.lines j (blank, []) (omega arith))

  not_below : (i j : ℕ) → j < length (operations e) → j ≤ i → among i (listed_before e j) ≡ false
  not_below i j u l =
      ne_true _ (λ h. let q = (line_at j u).below i h in omega arith)

  pub hb_listed : (i j : ℕ) → hb (precedence e) (operations e) i j ≡ among i (listed_before e j)
  unfolding computed
  hb_listed i j =
      ⊎_elim
      (λ u.
      ⊎_elim
      (λ l. (line_at j u).same i l)
      (λ l. hb_not_rising (precedence e) (operations e) i j l ∙ sym (not_below i j u l))
      (cases_lt i j))
      (λ u. hb_past (precedence e) (operations e) i j u ∙ sym (none_past i j u))
      (cases_lt j (length (operations e)))

  pub before_listed :
      PostedFirst (operations e)
      → (i j : ℕ)
      → Before (precedence e) (operations e) i j ↔ (among i (listed_before e j) ≡ true)
  before_listed posted i j =
      let b = before_hb (precedence e) (operations e) posted i j in
      (λ h. sym (hb_listed i j) ∙ b.0 h, λ h. b.1 (hb_listed i j ∙ h))
