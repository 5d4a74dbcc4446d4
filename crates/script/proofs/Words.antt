-- Words of a text: what their numbers are, and that a text has one way to begin with a word.
use Rattle.std.proofs.Common.{◌≡◌, ℕ, suc, ◌^◌, ◌<◌, ◌≤◌, true, leb, List, [], ◌∷◌, length, get_or, None, Ok, Err, decimal, Option, Result, sym, refl, ap, ◌∙◌, subst, ⊎_elim, arith, MatchOption}
use Rattle.std.specs.Str.Parse.{digits_value, ParsesUnsigned}
use Rattle.std.specs.Str.{all_ascii_digits}
use Rattle.std.specs.Bool.{then_some}
use Rattle.std.proofs.lemmas.Fmt.{decimal_digit, decimal_nonempty, first_decimal, digits_decimal, decimal-digits_value, parse-decimal}
use Rattle.std.proofs.lemmas.Str.Parse.{IsNumeralModel, numerals_by_value, tells_all_ascii_digits, not_in_digits, parse_plain}
use Rattle.std.proofs.lemmas.Result.{OkIff-at_ok}
use Rattle.std.proofs.lemmas.Bool.{cases_lt, le-leb, lt-leb}
use Rattle.script.specs.Texts.{Read, before}

own : IsNumeralModel (λ ds. all_ascii_digits ds ≡ true) (digits_value 10)
own = numerals_by_value _ tells_all_ascii_digits

-- no number has a byte below the digits
pub no_such_byte : (n c : ℕ) → n < 2 ^ 64 → c < 48 → (i : ℕ) → i < length (decimal n) → get_or (decimal n) i 0 ≡ c → ⊥
no_such_byte n c h low = not_in_digits own (decimal n) c (digits_decimal own n h) (λ inside. omega arith)

pub no_plus : (n : ℕ) (bs : List ℕ) → n < 2 ^ 64 → decimal n ≡ bs → get_or bs 0 0 ≡ 43 → ⊥
no_plus n bs h e plus = no_such_byte n 43 h (omega arith) 0 (decimal_nonempty n h) (ap (λ l. get_or l 0 0) e ∙ plus)

-- no zero stands before other digits
pub no_zero : (n : ℕ) (bs : List ℕ) → n < 2 ^ 64 → decimal n ≡ bs → get_or bs 0 0 ≡ 48 → 1 < length bs → ⊥
no_zero n bs h e nought long =
    ⊎_elim
    (λ pos. omega (arith, first_decimal n pos h, ap (λ l. get_or l 0 0) e ∙ nought))
    (λ none. omega (arith, ap length e, ap length (decimal_digit n (omega arith))))
    (cases_lt 0 n)

-- what `parse` reads of a text with no sign and no such zero
pub reads_decimal :
    {E : Type 0} (bs : List ℕ) (r : Result ℕ E) (n : ℕ)
    → ParsesUnsigned 64 10 bs r
    → (get_or bs 0 0 ≡ 43 → ⊥)
    → (get_or bs 0 0 ≡ 48 → length bs ≤ 1)
    → r ≡ Ok n
    → decimal n ≡ bs
reads_decimal bs r n h plus nought is =
    let p = OkIff-at_ok r _ _ n (parse_plain own 64 bs r h plus) is in
    ap decimal p.1
    ∙ decimal-digits_value own bs p.0.0 p.0.1 (λ z. omega (arith, nought z, p.0.1)) p.0.2

-- a number that is parsed so, and is kept if it is at most the largest
pub kept_decimal :
    {E : Type 0} (bs : List ℕ) (largest : ℕ) (parsed : Result ℕ E) (kept : Option ℕ)
    → largest < 2 ^ 64
    → ParsesUnsigned 64 10 bs parsed
    → (get_or bs 0 0 ≡ 43 → ⊥)
    → (get_or bs 0 0 ≡ 48 → length bs ≤ 1)
    → ((n : ℕ) → parsed ≡ Ok n → kept ≡ then_some (leb n largest) n)
    → ((e : E) → parsed ≡ Err e → kept ≡ None)
    → Read (λ n. n ≤ largest) decimal bs kept
kept_decimal {E} bs largest (Ok n) kept wide parses plus nought ok err =
    let one : ◌≡◌ {A = Result ℕ E} (Ok n) (Ok n) = refl in
    let is = reads_decimal {E = E} bs (Ok n) n parses plus nought one in
    subst (λ r. Read (λ n. n ≤ largest) decimal bs r) (sym (ok n one))
    (⊎_elim
    (λ above.
    subst (λ b. Read (λ n. n ≤ largest) decimal bs (then_some b n)) (sym (lt-leb n largest above))
    (λ m le e.
    let same : ◌≡◌ {A = Result ℕ E} (Ok n) (Ok m) = parse-decimal 64 m bs (Ok n) (omega arith) (omega arith) (sym e) parses in
    let z : n ≡ m = cc in
    omega arith))
    (λ le. subst (λ b. Read (λ n. n ≤ largest) decimal bs (then_some b n)) (sym (le-leb n largest le)) (le, is))
    (cases_lt largest n))
kept_decimal {E} bs largest (Err e) kept wide parses plus nought ok err =
    subst (λ r. Read (λ n. n ≤ largest) decimal bs r) (sym (err e refl))
    (λ m le k.
    let same : ◌≡◌ {A = Result ℕ E} (Err e) (Ok m) = parse-decimal 64 m bs (Err e) (omega arith) (omega arith) (sym k) parses in
    let z : ◌≡◌ {A = ℕ} 0 1 = cc in
    omega arith)

pub none_read : {A : Type 0} {r : Option A} (P : Type 0) (Q : A → Type 0) → r ≡ None → P → MatchOption r P Q
none_read P Q e p = subst (λ o. MatchOption o P Q) (sym e) p

-- a word of a text
abbrev pub NoSpace : List ℕ → Type 0
NoSpace w = (i : ℕ) → i < length w → get_or w i 0 ≡ 32 → ⊥

pub number_no_space : (n : ℕ) → n < 2 ^ 64 → NoSpace (decimal n)
number_no_space n h = no_such_byte n 32 h (omega arith)

pub same_words :
    (a b x y : List ℕ) → NoSpace a → NoSpace b → before a x ≡ before b y → (a ≡ b) × (x ≡ y)
same_words [] [] x y m n e = (refl, cc)
same_words [] (q ∷ b) x y m n e = let z : q ≡ 32 = cc in absurd (n 0 (omega arith) z)
same_words (p ∷ a) [] x y m n e = let z : p ≡ 32 = cc in absurd (m 0 (omega arith) z)
same_words (p ∷ a) (q ∷ b) x y m n e =
    let first : p ≡ q = cc in
    let rest : before a x ≡ before b y = cc in
    let s = same_words a b x y (λ i h k. m (suc i) (omega arith) k) (λ i h k. n (suc i) (omega arith) k) rest in
    ((λ k. first k ∷ s.0 k), s.1)

-- what stands after the number that a text begins with
pub after_number :
    {x y bs : List ℕ} (n m largest : ℕ)
    → n < 2 ^ 64
    → largest < 2 ^ 64
    → before (decimal n) x ≡ bs
    → (m ≤ largest) × (before (decimal m) y ≡ bs)
    → x ≡ y
after_number {x} {y} n m largest small wide e f =
    (same_words (decimal n) (decimal m) x y (number_no_space n small) (number_no_space m (omega arith)) (e ∙ sym f.1)).1
