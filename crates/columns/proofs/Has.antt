-- Which positions a column has, by its words.
use Rattle.std.proofs.Common.{◌≡◌, ℕ, ◌+◌, ◌*◌, ◌/◌, ◌%◌, ◌<◌, ◌≤◌, true, false, ◌&&◌, ltb, get_or, ap, ◌∙◌, ap₂, arith}
use Rattle.std.proofs.lemmas.Bool.{le-ltb, lt-ltb, ltb-true, and_parts}
use Rattle.columns.specs.declared.column.Column.{Column}
use Rattle.columns.specs.Positions.{bit, has}

abbrev pub word : Column → ℕ → ℕ
word column w = get_or column.words w 0

pub has_past : (column : Column) (k : ℕ) → 512 ≤ k → has column k ≡ false
unfolding has
has_past column k h = ap (λ t. t && bit (word column (k / 64)) (k % 64)) (le-ltb k 512 h)

pub has_room : (column : Column) (k : ℕ) → has column k ≡ true → k < 512
unfolding has
has_room column k h = ltb-true k 512 (and_parts (ltb k 512) _ h).0

pub has_bit : (column : Column) (k : ℕ) → k < 512 → has column k ≡ bit (word column (k / 64)) (k % 64)
unfolding has
has_bit column k h = ap (λ t. t && bit (word column (k / 64)) (k % 64)) (lt-ltb k 512 h)

pub has_at : (column : Column) (w b : ℕ) → w < 8 → b < 64 → has column (64 * w + b) ≡ bit (word column w) b
has_at column w b h l =
    let q : (64 * w + b) / 64 ≡ w = omega arith in
    let r : (64 * w + b) % 64 ≡ b = omega arith in
    has_bit column (64 * w + b) (omega arith) ∙ ap₂ (λ v c. bit (word column v) c) q r
