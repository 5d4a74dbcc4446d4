-- Numbers in bytes, low byte first.
use Rattle.std.proofs.Common.{◌≡◌, ℕ, zero, suc, ◌+◌, ◌*◌, ◌/◌, ◌%◌, ◌^◌, ◌<◌, ◌≤◌, List, [], ◌∷◌, ◌++◌, length, get_or, take, drop, sym, refl, ap, ◌∙◌, ap₂, pow-suc, arith, drop-cons, shr-shr}
use native.Mathlib.Nat.{div-add-mod}
use Rattle.std.proofs.lemmas.Nat.{div_below, div-mul-add, mod-mul-add}
use Rattle.recording.specs.Bytes.{bytes_of, number_at}

-- the standard library divides once, by a power of 256
pub bytes_4 :
    (n : ℕ) → (n % 256) ∷ (n / 256 % 256) ∷ (n / 65536 % 256) ∷ (n / 16777216 % 256) ∷ [] ≡ bytes_of 4 n
bytes_4 n =
    let a : n / 65536 ≡ n / 256 / 256 = sym (shr-shr n 8 8) in
    let b : n / 16777216 ≡ n / 256 / 256 / 256 = sym (ap (λ x. x / 256) (shr-shr n 8 8) ∙ shr-shr n 16 8) in
    λ t. (n % 256) ∷ (n / 256 % 256) ∷ (a t % 256) ∷ (b t % 256) ∷ []

pub bytes_8 :
    (n : ℕ)
    → (n % 256)
    ∷ (n / 256 % 256)
    ∷ (n / 65536 % 256)
    ∷ (n / 16777216 % 256)
    ∷ (n / 4294967296 % 256)
    ∷ (n / 1099511627776 % 256)
    ∷ (n / 281474976710656 % 256)
    ∷ (n / 72057594037927936 % 256)
    ∷ []
    ≡ bytes_of 8 n
bytes_8 n =
    let low = bytes_4 n in
    let high = bytes_4 (n / 4294967296) in
    let a : n / 1099511627776 ≡ n / 4294967296 / 256 = sym (shr-shr n 32 8) in
    let b : n / 281474976710656 ≡ n / 4294967296 / 65536 = sym (shr-shr n 32 16) in
    let c : n / 72057594037927936 ≡ n / 4294967296 / 16777216 = sym (shr-shr n 32 24) in
    let e : n / 4294967296 ≡ n / 256 / 256 / 256 / 256 =
    sym (ap (λ x. x / 256 / 256) (shr-shr n 8 8) ∙ (ap (λ x. x / 256) (shr-shr n 16 8) ∙ shr-shr n 24 8))
    in
    (λ t.
    (n % 256)
    ∷ (n / 256 % 256)
    ∷ (n / 65536 % 256)
    ∷ (n / 16777216 % 256)
    ∷ (n / 4294967296 % 256)
    ∷ (a t % 256)
    ∷ (b t % 256)
    ∷ (c t % 256)
    ∷ [])
    ∙ ap (λ xs. (n % 256) ∷ (n / 256 % 256) ∷ (n / 65536 % 256) ∷ (n / 16777216 % 256) ∷ xs) high
    ∙ ap (λ xs. xs ++ bytes_of 4 (n / 4294967296)) low
    ∙ ap (λ x. bytes_of 4 n ++ bytes_of 4 x) e

next_byte : (k p x : ℕ) (b : List ℕ) → number_at k (suc p) (x ∷ b) ≡ number_at k p b
next_byte zero p x b = refl
next_byte (suc k) p x b = ap (λ n. get_or b p 0 + 256 * n) (next_byte k (suc p) x b)

pub number_again : (k n : ℕ) → n < 256 ^ k → number_at k 0 (bytes_of k n) ≡ n
number_again zero n h = let q : n < 1 = h in omega arith
number_again (suc k) n h =
    let low : n / 256 < 256 ^ k = div_below n 256 (256 ^ k) (omega arith) (rw pow-suc at h) in
    let split = div-add-mod n 256 in
    ap (λ x. n % 256 + 256 * x) (next_byte k 0 (n % 256) (bytes_of k (n / 256)) ∙ number_again k (n / 256) low)
    ∙ omega arith

pub bytes_again :
    (k p : ℕ) (b : List ℕ) → p + k ≤ length b → ((j : ℕ) → get_or b j 0 < 256)
    → bytes_of k (number_at k p b) ≡ take k (drop p b)
bytes_again zero p b h fits = refl
bytes_again (suc k) p b h fits =
    let x = get_or b p 0 in
    let y = number_at k (suc p) b in
    let turned : x + 256 * y ≡ y * 256 + x = omega arith in
    let low : (x + 256 * y) % 256 ≡ x = ap (λ n. n % 256) turned ∙ mod-mul-add y 256 x (fits p) in
    let high : (x + 256 * y) / 256 ≡ y = ap (λ n. n / 256) turned ∙ div-mul-add y 256 x (fits p) in
    let inside : p < length b = omega arith in
    ap₂ (λ m n. m ∷ bytes_of k n) low high
    ∙ (ap (λ xs. x ∷ xs) (bytes_again k (suc p) b (omega arith) fits)
    ∙ sym (ap (take (suc k)) (drop-cons b p 0 inside)))

pub number_below : (k p : ℕ) (b : List ℕ) → ((j : ℕ) → get_or b j 0 < 256) → number_at k p b < 256 ^ k
number_below zero p b fits = omega arith
number_below (suc k) p b fits =
    let x : get_or b p 0 < 256 = fits p in
    let y = number_below k (suc p) b fits in
    rw pow-suc (omega arith)
