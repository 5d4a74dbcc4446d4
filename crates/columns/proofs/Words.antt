-- What each operation on the words does to the set of positions.
use Rattle.std.proofs.Common.{◌≡◌, ℕ, ◌*◌, ◌/◌, ◌%◌, ◌^◌, ◌<◌, ◌≤◌, Bool, true, false, not, ◌&&◌, ◌||◌, eqb, ltb, List, length, get_or, set, replicate, sym, refl, ap, ◌∙◌, ap₂, ⊎_elim, arith, get_or-set_other, get_or-set_same}
use mathlib.Core.Bool.{or-false, and-true}
use lib.Bits.{bit_or, bit_and, bit_xor}
use lib.Lanes.{zip2}
use Rattle.std.proofs.lemmas.Nat.{one_shl}
use Rattle.std.proofs.lemmas.Simd.{get_or-zip2, length-zip2, get_or-replicate}
use Rattle.std.proofs.lemmas.Bool.{cases_eq, ne_eqb, lt-ltb, ltb-true, cases_lt}
use Rattle.std.proofs.lemmas.Bool.Decides.{nat_tests}
use Rattle.columns.specs.declared.column.Column.{Column}
use Rattle.columns.specs.Positions.{bit, has, Holds, none, with_position, union, except}
use Rattle.columns.proofs.Bits.{bit_zero, bit_of_or, bit_less, bit_power}
use Rattle.columns.proofs.Has.{word, has_bit, has_past}

-- an operation on words that acts on each bit apart, and makes nothing of nothing
wordwise :
    (g : Bool → Bool → Bool → Bool) → g false false false ≡ false
    → (new x y z : Column)
    → ((w b : ℕ) → w < 8 → b < 64 → bit (word new w) b ≡ g (bit (word x w) b) (bit (word y w) b) (bit (word z w) b))
    → (k : ℕ) → has new k ≡ g (has x k) (has y k) (has z k)
unfolding has
wordwise g nothing new x y z each k = within (ltb k 512) refl
  where
    within : (t : Bool) → ltb k 512 ≡ t
        → (t && bit (word new (k / 64)) (k % 64)) ≡ g (t && bit (word x (k / 64)) (k % 64)) (t && bit (word y (k / 64)) (k % 64)) (t && bit (word z (k / 64)) (k % 64))
    within true e = let l = ltb-true k 512 e in each (k / 64) (k % 64) (omega arith) (omega arith)
    within false e = sym nothing

abbrev of_words : List ℕ → Column
of_words ws = record { words = ws }

pub empty_holds : Holds (of_words (replicate 8 0)) none
empty_holds = wordwise (λ x y z. false) refl (of_words (replicate 8 0)) blank blank blank clear
  where
    blank : Column
    blank = of_words (replicate 8 0)

    clear : (w b : ℕ) → w < 8 → b < 64 → bit (get_or (replicate 8 0) w 0) b ≡ false
    clear w b h l = ap (λ n. bit n b) (get_or-replicate 8 w 0 0 h) ∙ bit_zero b

pub join_holds :
    (xs ys : List ℕ) → length xs ≡ 8 → length ys ≡ 8
    → Holds (of_words (zip2 bit_or xs ys)) (union (has (of_words xs)) (has (of_words ys)))
join_holds xs ys long-xs long-ys =
    wordwise (λ x y z. x || y) refl (of_words (zip2 bit_or xs ys)) (of_words xs) (of_words ys) (of_words ys) each
  where
    each : (w b : ℕ) → w < 8 → b < 64 → bit (get_or (zip2 bit_or xs ys) w 0) b ≡ (bit (get_or xs w 0) b || bit (get_or ys w 0) b)
    each w b h l =
        ap (λ n. bit n b) (get_or-zip2 bit_or xs ys w 0 0 0 (omega arith) (omega arith)) ∙ bit_of_or (get_or xs w 0) (get_or ys w 0) b

pub join_except_holds :
    (xs ys zs : List ℕ) → length xs ≡ 8 → length ys ≡ 8 → length zs ≡ 8
    → Holds (of_words (zip2 bit_or xs (zip2 bit_xor ys (zip2 bit_and ys zs)))) (union (has (of_words xs)) (except (has (of_words ys)) (has (of_words zs))))
join_except_holds xs ys zs long-xs long-ys long-zs =
    wordwise (λ x y z. x || (y && not z)) refl (of_words (zip2 bit_or xs shown)) (of_words xs) (of_words ys) (of_words zs) each
  where
    hidden : List ℕ
    hidden = zip2 bit_and ys zs

    shown : List ℕ
    shown = zip2 bit_xor ys hidden

    long_hidden : length hidden ≡ 8
    long_hidden = length-zip2 bit_and ys zs (long-ys ∙ sym long-zs) ∙ long-ys

    long_shown : length shown ≡ 8
    long_shown = length-zip2 bit_xor ys hidden (long-ys ∙ sym long_hidden) ∙ long-ys

    shown_word : (w : ℕ) → w < 8 → get_or shown w 0 ≡ bit_xor (get_or ys w 0) (bit_and (get_or ys w 0) (get_or zs w 0))
    shown_word w h =
        get_or-zip2 bit_xor ys hidden w 0 0 0 (omega arith) (omega (arith, long_hidden))
        ∙ ap (bit_xor (get_or ys w 0)) (get_or-zip2 bit_and ys zs w 0 0 0 (omega arith) (omega arith))

    each : (w b : ℕ) → w < 8 → b < 64
        → bit (get_or (zip2 bit_or xs shown) w 0) b ≡ (bit (get_or xs w 0) b || (bit (get_or ys w 0) b && not (bit (get_or zs w 0) b)))
    each w b h l =
        ap (λ n. bit n b) (get_or-zip2 bit_or xs shown w 0 0 0 (omega arith) (omega (arith, long_shown)))
        ∙ bit_of_or (get_or xs w 0) (get_or shown w 0) b
        ∙ ap (λ t. bit (get_or xs w 0) b || t) (ap (λ n. bit n b) (shown_word w h) ∙ bit_less (get_or ys w 0) (get_or zs w 0) b)

-- a word with bit b added
abbrev with_bit : ℕ → ℕ → ℕ
with_bit n b = bit_or n ((1 * 2 ^ b) % 18446744073709551616)

bit_with : (n b k : ℕ) → b < 64 → bit (with_bit n b) k ≡ (bit n k || eqb k b)
bit_with n b k h = bit_of_or n _ k ∙ ap (λ t. bit n k || t) (ap (λ x. bit x k) (one_shl b 64 h) ∙ bit_power b k)

pub insert_holds :
    (ws : List ℕ) (i : ℕ) → length ws ≡ 8 → i < 512
    → Holds (of_words (set ws (i / 64) (with_bit (get_or ws (i / 64) 0) (i % 64)))) (with_position (has (of_words ws)) i)
insert_holds ws i long room k = ⊎_elim low high (cases_lt k 512)
  where
    word_i : ℕ
    word_i = with_bit (get_or ws (i / 64) 0) (i % 64)

    new : List ℕ
    new = set ws (i / 64) (with_bit (get_or ws (i / 64) 0) (i % 64))

    in_word : bit (get_or new (k / 64) 0) (k % 64) ≡ (bit (get_or ws (k / 64) 0) (k % 64) || eqb k i)
    in_word = ⊎_elim same other (cases_eq (k / 64) (i / 64))
      where
        same : k / 64 ≡ i / 64 → bit (get_or new (k / 64) 0) (k % 64) ≡ (bit (get_or ws (k / 64) 0) (k % 64) || eqb k i)
        same e =
            let place : eqb (k % 64) (i % 64) ≡ eqb k i = grind (arith, nat_tests) in
            rw e
            (ap (λ n. bit n (k % 64)) (get_or-set_same ws (i / 64) word_i 0 (omega arith))
            ∙ bit_with (get_or ws (i / 64) 0) (i % 64) (k % 64) (omega arith)
            ∙ ap (λ t. bit (get_or ws (i / 64) 0) (k % 64) || t) place)

        other : (k / 64 ≡ i / 64 → ⊥) → bit (get_or new (k / 64) 0) (k % 64) ≡ (bit (get_or ws (k / 64) 0) (k % 64) || eqb k i)
        other n =
            ap (λ x. bit x (k % 64)) (get_or-set_other ws (i / 64) (k / 64) word_i 0 n)
            ∙ sym (ap (λ t. bit (get_or ws (k / 64) 0) (k % 64) || t) (ne_eqb k i (λ e. n (ap (λ x. x / 64) e))) ∙ or-false _)

    low : k < 512 → has (of_words new) k ≡ with_position (has (of_words ws)) i k
    low l =
        has_bit (of_words new) k l
        ∙ in_word
        ∙ ap₂ ◌||◌ (sym (has_bit (of_words ws) k l)) (sym (ap (λ t. eqb k i && t) (lt-ltb i 512 room) ∙ and-true (eqb k i)))

    high : 512 ≤ k → has (of_words new) k ≡ with_position (has (of_words ws)) i k
    high l =
        has_past (of_words new) k l
        ∙ sym (ap₂ (λ t u. t || (u && ltb i 512)) (has_past (of_words ws) k l) (ne_eqb k i (λ e. omega arith)))
