-- How many positions a column has, word by word.
use Rattle.std.proofs.Common.{◌≡◌, ℕ, zero, suc, ◌+◌, ◌*◌, ◌/◌, ◌%◌, ◌^◌, ◌<◌, ◌≤◌, Bool, cond, eqb, sym, refl, ap, ◌∙◌, ap₂, add-zero, add-suc, pow-suc, one-add, arith}
use lib.Count.{ones, ones_step}
use Rattle.std.proofs.lemmas.Bool.{cond_both}
use Rattle.columns.specs.declared.column.Column.{Column}
use Rattle.columns.specs.Positions.{bit, has, tally}
use Rattle.columns.proofs.Bits.{digit, bit_half}
use Rattle.columns.proofs.Has.{word, has_at}

pub tally_same : (p q : ℕ → Bool) (n : ℕ) → ((k : ℕ) → k < n → p k ≡ q k) → tally p n ≡ tally q n
unfolding tally
tally_same p q zero h = refl
tally_same p q (suc n) h =
    ap₂ (λ a b. a + cond b 1 0) (tally_same p q n (λ k l. h k (omega arith))) (h n (omega arith))

pub tally_split : (p : ℕ → Bool) (m n : ℕ) → tally p (m + n) ≡ tally p m + tally (λ k. p (m + k)) n
unfolding tally
tally_split p m zero = ap (tally p) (add-zero m) ∙ sym (add-zero (tally p m))
tally_split p m (suc n) = ap (tally p) (add-suc m n) ∙ (let ih = tally_split p m n in omega arith)

pub tally_le : (p : ℕ → Bool) (n : ℕ) → tally p n ≤ n
unfolding tally
tally_le p zero = omega arith
tally_le p (suc n) = let ih = tally_le p n in cond_both (p n) 1 0 (λ x. tally p n + x ≤ suc n) (λ e. omega arith) (λ e. omega arith)

pub tally_none : (p : ℕ → Bool) → 0 ≡ tally p 0
unfolding tally
tally_none p = refl

ones_tally : (w n : ℕ) → n < 2 ^ w → ones n ≡ tally (bit n) w
unfolding ones tally
ones_tally zero n h = ap ones (let z : n ≡ 0 = omega arith in z)
ones_tally (suc w) n h =
    ones_step n
    ∙ ap₂ ◌+◌ lowest (ones_tally w (n / 2) (let e = pow-suc 2 w in omega arith) ∙ tally_same (bit (n / 2)) (λ k. bit n (1 + k)) w (λ k l. sym (bit_half n k)))
    ∙ sym (tally_split (bit n) 1 w)
    ∙ ap (tally (bit n)) (one-add w)
  where
    lowest : n % 2 ≡ tally (bit n) 1
    lowest = let e = digit (λ x. x ≡ cond (eqb x 1) 1 0) refl refl (n / 1 % 2) (omega arith) in omega arith

-- the words below w counted, and then word w
pub counted :
    (column : Column) (w n : ℕ) → w < 8 → word column w < 2 ^ 64
    → n ≡ tally (has column) (64 * w) → n + ones (word column w) ≡ tally (has column) (64 * (w + 1))
counted column w n h fits e =
    ap₂ ◌+◌ e (ones_tally 64 (word column w) fits ∙ tally_same (bit (word column w)) (λ b. has column (64 * w + b)) 64 (λ b l. sym (has_at column w b h l)))
    ∙ sym (tally_split (has column) (64 * w) 64)
    ∙ ap (tally (has column)) (let q : 64 * w + 64 ≡ 64 * (w + 1) = omega arith in q)
