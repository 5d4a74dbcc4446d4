-- The bits of a word.
use Rattle.std.proofs.Common.{◌≡◌, ℕ, zero, suc, ◌+◌, ◌/◌, ◌%◌, ◌^◌, ◌<◌, min, max, true, false, not, ◌&&◌, ◌||◌, eqb, sym, refl, ap, ◌∙◌, ⊎_elim, one-add, pow-suc, div-one, arith}
use lib.Bits.{bit_or, bit_and, bit_xor}
use Rattle.std.specs.Int.{bit_at}
use Rattle.std.proofs.lemmas.Bool.{cases_eq, eq-eqb, ne_eqb}
use Rattle.std.proofs.lemmas.Nat.Bits.{bit_at_or, bit_at_and, bit_at_xor, bit_at-zero, bit_at-suc, bit_at-pow_same, bit_at-pow_other, bit_at-lt}
use Rattle.columns.specs.Positions.{bit}

pub digit : (P : ℕ → Type 0) → P 0 → P 1 → (x : ℕ) → x < 2 → P x
digit P p q zero h = p
digit P p q (suc zero) h = q
digit P p q (suc (suc x)) h = absurd (let z : ⊥ = omega arith in z)

-- what holds of any two digits, of bit k of two words
digits : (P : ℕ → ℕ → Type 0) → P 0 0 → P 0 1 → P 1 0 → P 1 1 → (a b k : ℕ) → P (bit_at a k) (bit_at b k)
digits P p q r s a b k =
    digit (λ x. P x (bit_at b k))
    (digit (P 0) p q (bit_at b k) (bit_at-lt b k))
    (digit (P 1) r s (bit_at b k) (bit_at-lt b k))
    (bit_at a k) (bit_at-lt a k)

pub bit_of_or : (a b k : ℕ) → bit (bit_or a b) k ≡ (bit a k || bit b k)
bit_of_or a b k =
    ap (λ x. eqb x 1) (bit_at_or a b k)
    ∙ digits (λ x y. eqb (max x y) 1 ≡ (eqb x 1 || eqb y 1)) refl refl refl refl a b k

pub bit_of_and : (a b k : ℕ) → bit (bit_and a b) k ≡ (bit a k && bit b k)
bit_of_and a b k =
    ap (λ x. eqb x 1) (bit_at_and a b k)
    ∙ digits (λ x y. eqb (min x y) 1 ≡ (eqb x 1 && eqb y 1)) refl refl refl refl a b k

-- a word without the bits that it shares with another
pub bit_less : (a b k : ℕ) → bit (bit_xor a (bit_and a b)) k ≡ (bit a k && not (bit b k))
bit_less a b k =
    ap (λ x. eqb x 1) (bit_at_xor a (bit_and a b) k ∙ ap (λ y. (bit_at a k + y) % 2) (bit_at_and a b k))
    ∙ digits (λ x y. eqb ((x + min x y) % 2) 1 ≡ (eqb x 1 && not (eqb y 1))) refl refl refl refl a b k

pub bit_zero : (k : ℕ) → bit 0 k ≡ false
bit_zero k = ap (λ x. eqb x 1) (bit_at-zero k)

pub bit_half : (n k : ℕ) → bit n (1 + k) ≡ bit (n / 2) k
bit_half n k = ap (bit n) (one-add k) ∙ ap (λ x. eqb x 1) (bit_at-suc n k)

-- a power of two has one bit
pub bit_power : (j k : ℕ) → bit (2 ^ j) k ≡ eqb k j
bit_power j k =
    ⊎_elim
    (λ e. ap (bit (2 ^ j)) e ∙ ap (λ x. eqb x 1) (bit_at-pow_same j) ∙ sym (eq-eqb k j e))
    (λ ne. ap (λ x. eqb x 1) (bit_at-pow_other j k ne) ∙ sym (ne_eqb k j ne))
    (cases_eq k j)

-- a number of w bits other than 0 has one of them
pub some_bit : (w n : ℕ) → n < 2 ^ w → 0 < n → (b : ℕ) × (b < w) × (bit n b ≡ true)
some_bit zero n h p = absurd (let z : ⊥ = omega arith in z)
some_bit (suc w) n h p = ⊎_elim odd (λ o. let e = pow-suc 2 w in later (some_bit w (n / 2) (omega arith) (omega arith))) (cases_eq (n % 2) 1)
  where
    odd : n % 2 ≡ 1 → (b : ℕ) × (b < suc w) × (bit n b ≡ true)
    odd e = (0, omega arith, ap (λ x. eqb (x % 2) 1) (div-one n) ∙ eq-eqb (n % 2) 1 e)

    later : (b : ℕ) × (b < w) × (bit (n / 2) b ≡ true) → (b : ℕ) × (b < suc w) × (bit n b ≡ true)
    later (b, l, e) = (1 + b, omega arith, bit_half n b ∙ e)
