-- The listed positions as columns.
use Rattle.std.proofs.Common.{◌≡◌, ℕ, ◌/◌, ◌%◌, ◌<◌, ◌≤◌, true, false, ltb, List, [], ◌∷◌, map, length, get_or, sym, refl, ap, ◌∙◌, ap₂, ⊎_elim, arith}
use native.Mathlib.Nat.{zero-div}
use Rattle.std.proofs.lemmas.List.{get_or_past, get_or-map, length-map}
use Rattle.std.proofs.lemmas.Bool.{and_right, cases_lt}
use Rattle.recording.specs.Rows.{blank}
use Rattle.recording.specs.declared.row.Row.{Row}
use Rattle.columns.specs.declared.column.Column.{Column}
use Rattle.columns.specs.Positions.{bit, has}
use Rattle.columns.proofs.Has.{has_bit}
use Rattle.happens_before.specs.Theorems.{PostedFirst}
use Rattle.rules.specs.Columns.{pairs_in, Right}
use Rattle.races.proofs.Nearests.{ne_true}
use Rattle.worked.specs.Recordings.{Example, operations, listed_before, precedence, among}
use Rattle.worked.proofs.Lines.{word_of, right_order, line_at, before_listed}

abbrev column_of : List ℕ → Column
column_of ks = record { words = word_of ks ∷ [] }

unfoldable pub columns_of : List (Row × List ℕ) → List Column
columns_of lines = map (λ l. column_of l.1) lines

has_none : (c : Column) (i : ℕ) → bit (get_or c.words (i / 64) 0) (i % 64) ≡ false → has c i ≡ false
unfolding has
has_none c i h = and_right (ltb i 512) _ h

-- what is listed is below 64
column_is :
    (ks : List ℕ)
    → ((i : ℕ) → i < 64 → bit (word_of ks) i ≡ among i ks)
    → ((i : ℕ) → among i ks ≡ true → i < 64)
    → (i : ℕ)
    → has (column_of ks) i ≡ among i ks
column_is ks word small i = ⊎_elim low high (cases_lt i 64)
  where
    low : i < 64 → has (column_of ks) i ≡ among i ks
    low l =
        let q : i / 64 ≡ 0 = omega arith in
        let r : i % 64 ≡ i = omega arith in
        has_bit (column_of ks) i (omega arith)
        ∙ (ap₂ (λ v c. bit (get_or (word_of ks ∷ []) v 0) c) q r ∙ word i l)

    empty : 64 ≤ i → bit (get_or (word_of ks ∷ []) (i / 64) 0) (i % 64) ≡ false
    empty l =
        let q : 1 ≤ i / 64 = omega arith in
        ap (λ v. bit v (i % 64)) (get_or_past (word_of ks ∷ []) (i / 64) 0 q) ∙ rw zero-div refl

    unlisted : 64 ≤ i → among i ks ≡ false
    unlisted l = ne_true _ (λ h. let s = small i h in omega arith)

    high : 64 ≤ i → has (column_of ks) i ≡ among i ks
    high l = has_none (column_of ks) i (empty l) ∙ sym (unlisted l)

module _
    (e : Example)
    (right : right_order e ≡ true)
    (posted : PostedFirst (operations e))
    (few : length (operations e) ≤ 64)
  where
    pairs_listed : (i k : ℕ) → k < length (operations e) → pairs_in (columns_of e.lines) i k ≡ among i (listed_before e k)
    unfolding columns_of
    pairs_listed i k u =
        let n = length-map e.lines (λ (l : Row × List ℕ). l.0) in
        let line = line_at e right k u in
        ap (λ c. has c i)
        (get_or-map (λ (l : Row × List ℕ). column_of l.1) e.lines k (blank, []) (record { words = [] }) (omega arith))
        ∙ column_is (listed_before e k) line.word (λ i h. let l = line.below i h in omega arith) i

    pub columns_right : Right (precedence e) (operations e) (columns_of e.lines)
    columns_right i k u =
        let b = before_listed e right posted i k in
        (λ h. b.1 (sym (pairs_listed i k u) ∙ h), λ h. pairs_listed i k u ∙ b.0 h)
