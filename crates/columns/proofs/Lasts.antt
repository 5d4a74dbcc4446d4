-- The highest bit of a word up to a place, and the highest position of a column below an end.
use Rattle.std.proofs.Common.{◌≡◌, ℕ, suc, ◌+◌, ◌-◌, ◌*◌, ◌/◌, ◌%◌, ◌^◌, ◌<◌, ◌≤◌, true, false, eqb, sym, ap, ◌∙◌, ap₂, ⊎_elim, add-zero, mul-le-mul_right, eq-zero-or-pos, pow-suc, zero-mul, arith, pow_mono}
use native.Mathlib.Nat.{zero-div, div-eq_of_lt, div-eq_of_lt-le, mul-mod_left}
use lib.Count.{count_leading_zeros, leading_top, leading_unique}
use Rattle.std.proofs.lemmas.Nat.{pow_pos, pow-add, shl-shr, shl_below, mod-pow-add, field_of, mod_below}
use Rattle.std.proofs.lemmas.Bool.{cases_lt}
use Rattle.columns.specs.declared.column.Column.{Column}
use Rattle.columns.specs.Positions.{bit, has, Lacks, LastBelow}
use Rattle.columns.proofs.Bits.{bit_zero}
use Rattle.columns.proofs.Has.{word, has_bit, has_at}

-- the bits below c stay in what is left below 2 ^ c
bit_low : (n c k : ℕ) → k < c → bit (n % 2 ^ c) k ≡ bit n k
bit_low n c k h = ap (λ x. eqb x 1) (ap (λ x. n % 2 ^ x / 2 ^ k % 2) split ∙ ap (λ x. x % 2) (field_of n (c - suc k + 1) k) ∙ lowest)
  where
    split : c ≡ (c - suc k + 1) + k
    split = omega arith

    lowest : n / 2 ^ k % 2 ^ (c - suc k + 1) % 2 ≡ n / 2 ^ k % 2
    lowest = omega (arith, mod-pow-add (n / 2 ^ k) (c - suc k) 1)

-- the word with its bit b as the highest
abbrev lifted : ℕ → ℕ → ℕ
lifted n b = (n * 2 ^ (63 - b)) % 18446744073709551616

module _ (n b : ℕ) (h : b < 64) where
  abbrev low : ℕ
  low = n % 2 ^ suc b

  abbrev by : ℕ
  by = 63 - b

  low_lifted : lifted n b ≡ low * 2 ^ by
  low_lifted =
      let e : 64 ≡ suc b + by = omega arith in
      ap (λ x. n * 2 ^ by % 2 ^ x) e
      ∙ mod-pow-add (n * 2 ^ by) (suc b) by
      ∙ ap₂ (λ q r. q % 2 ^ suc b * 2 ^ by + r) (shl-shr n by) (mul-mod_left n (2 ^ by))
      ∙ add-zero (low * 2 ^ by)

  none_up_to : lifted n b ≡ 0 → (k : ℕ) → k ≤ b → bit n k ≡ false
  none_up_to none k l =
      let nothing : low ≡ 0 = sym (shl-shr low by) ∙ ap (λ x. x / 2 ^ by) (sym low_lifted ∙ none) ∙ zero-div (2 ^ by) in
      sym (bit_low n (suc b) k (omega arith)) ∙ ap (λ x. bit x k) nothing ∙ bit_zero k

  -- t is the highest bit up to b
  pub record Top (t : ℕ) : Type 0 where
    pub up_to : t ≤ b
    pub zeros : count_leading_zeros 64 (lifted n b) ≡ b - t
    pub set : bit n t ≡ true
    pub none_above : (k : ℕ) → t < k → k ≤ b → bit n k ≡ false

  highest_bit : (lifted n b ≡ 0 → ⊥) → (t : ℕ) × Top t
  highest_bit some = found (leading_top (suc b) low positive (mod_below n (2 ^ suc b) (pow_pos (suc b))))
    where
      positive : 0 < low
      positive =
          ⊎_elim (λ e. absurd (some (low_lifted ∙ ap (λ x. x * 2 ^ by) e ∙ zero-mul (2 ^ by)))) (λ q. q) (eq-zero-or-pos low)

      found : (t : ℕ) × (count_leading_zeros (suc b) low + suc t ≡ suc b) × (2 ^ t ≤ low) × (low < 2 ^ suc t) → (t : ℕ) × Top t
      found (t, total, above, below) = (
        t,
        record {
          up_to = omega arith;
          zeros =
              let up : suc (t + by) ≡ suc t + by = omega arith in
              let short : low * 2 ^ by < 2 ^ suc (t + by) = omega (arith, shl_below low (suc t) by below, ap (λ x. 2 ^ x) up) in
              let whole = pow-suc 2 (t + by) in
              let parts = pow-add 2 t by in
              let long : 2 ^ suc (t + by) ≤ 2 * (low * 2 ^ by) + 1 = omega (arith, mul-le-mul_right (2 ^ by) above) in
              sym (leading_unique 64 (lifted n b) (b - t) (suc (t + by)) (omega arith) (omega (arith, low_lifted)) (omega (arith, low_lifted)));
          set =
              let one : low / 2 ^ t ≡ 1 = div-eq_of_lt-le (2 ^ t) (omega arith) (omega (arith, pow-suc 2 t)) in
              sym (bit_low n (suc b) t (omega arith)) ∙ ap (λ x. eqb (x % 2) 1) one;
          none_above = λ k a l.
              let short : low < 2 ^ k = omega (arith, pow_mono a) in
              sym (bit_low n (suc b) k (omega arith)) ∙ ap (λ x. eqb (x % 2) 1) (div-eq_of_lt short);
        },
      )

-- nothing from top on is below end and in the column: what the word of top - 1 tells of the positions below
module _ (column : Column) (top end : ℕ) (above : 0 < top) (inv : (top ≤ end) × (top ≤ 512) × Lacks (has column) top end) where
  abbrev last : ℕ
  last = top - 1

  abbrev word_up_to : ℕ
  word_up_to = lifted (word column (last / 64)) (last % 64)

  in_word : (k : ℕ) → last / 64 * 64 ≤ k → k < top → has column k ≡ bit (word column (last / 64)) (k % 64)
  in_word k a l =
      let same : k / 64 ≡ last / 64 = omega arith in
      has_bit column k (omega arith) ∙ ap (λ w. bit (word column w) (k % 64)) same

  pub word_lacks : word_up_to ≡ 0 → Lacks (has column) (last / 64 * 64) end
  word_lacks none k a l = ⊎_elim here (λ m. inv.2 k m l) (cases_lt k top)
    where
      here : k < top → has column k ≡ false
      here m = in_word k a m ∙ none_up_to (word column (last / 64)) (last % 64) (omega arith) none (k % 64) (omega arith)

  module _ (some : word_up_to ≡ 0 → ⊥) where
    highest : (t : ℕ) × Top (word column (last / 64)) (last % 64) (omega arith) t
    highest = highest_bit (word column (last / 64)) (last % 64) (omega arith) some

    pub zeros_fit : count_leading_zeros 64 word_up_to ≤ last
    zeros_fit = omega (arith, highest.1.zeros)

    pub word_last : LastBelow (has column) end (last - count_leading_zeros 64 word_up_to)
    word_last = (
      omega arith,
      ap (has column) place ∙ has_at column (last / 64) highest.0 (omega arith) (omega (arith, highest.1.up_to)) ∙ highest.1.set,
      λ k a l. ⊎_elim (none k a) (λ m. inv.2 k m l) (cases_lt k top),
    )
      where
        place : last - count_leading_zeros 64 word_up_to ≡ 64 * (last / 64) + highest.0
        place = omega (arith, highest.1.zeros, highest.1.up_to)

        none : (k : ℕ) → last - count_leading_zeros 64 word_up_to < k → k < top → has column k ≡ false
        none k a m = in_word k (omega (arith, place)) m ∙ highest.1.none_above (k % 64) (omega (arith, place)) (omega (arith, place))
