-- Columns that share a position share a bit of some word.
use Rattle.std.proofs.Common.{◌≡◌, ℕ, ◌+◌, ◌*◌, ◌/◌, ◌%◌, ◌^◌, ◌<◌, sym, ap, ◌∙◌, arith}
use lib.Bits.{bit_and}
use Rattle.std.proofs.lemmas.Nat.{and_le_l}
use Rattle.std.proofs.lemmas.Bool.{and_parts, and_from, both_ways}
use Rattle.columns.specs.declared.column.Column.{Column}
use Rattle.columns.specs.Positions.{bit, has, Meet}
use Rattle.columns.proofs.Bits.{bit_zero, bit_of_and, some_bit}
use Rattle.columns.proofs.Has.{word, has_bit, has_room, has_at}

module _ (x y : Column) where
  abbrev shared : ℕ → ℕ
  shared w = bit_and (word x w) (word y w)

  pub met : (w : ℕ) → w < 8 → word x w < 2 ^ 64 → (shared w ≡ 0 → ⊥) → Meet (has x) (has y)
  met w h fits some =
      let low = and_le_l (word x w) (word y w) in
      let b = some_bit 64 (shared w) (omega arith) (omega arith) in
      let both = and_parts (bit (word x w) b.0) (bit (word y w) b.0) (sym (bit_of_and (word x w) (word y w) b.0) ∙ b.2) in
      (64 * w + b.0, has_at x w b.0 h b.1 ∙ both.0, has_at y w b.0 h b.1 ∙ both.1)

  pub apart : ((w : ℕ) → w < 8 → shared w ≡ 0) → Meet (has x) (has y) → ⊥
  apart none (k, in-x, in-y) =
      let room = has_room x k in-x in
      both_ways (bit (shared (k / 64)) (k % 64))
      (ap (λ n. bit n (k % 64)) (none (k / 64) (omega arith)) ∙ bit_zero (k % 64))
      (bit_of_and (word x (k / 64)) (word y (k / 64)) (k % 64)
      ∙ and_from _ _ (sym (has_bit x k room) ∙ in-x) (sym (has_bit y k room) ∙ in-y))
