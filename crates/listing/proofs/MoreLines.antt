-- The lines of a list of operations, and the threads of a mask, one further.
use Rattle.std.proofs.Common.{◌≡◌, ℕ, suc, ◌+◌, ◌<◌, cond, List, [], ◌∷◌, ◌++◌, length, get_or, take, codes, decimal, sym, refl, ap, ◌∙◌, append_assoc, append-nil, add-one, arith}
use Rattle.std.proofs.lemmas.List.{take_more, length-take-le}
use Rattle.recording.specs.declared.row.Row.{Row}
use Rattle.recording.specs.Masks.{bit}
use Rattle.listing.specs.Listings.{threads_below, operation_line, operation_lines}

lines_push :
    (n : ℕ) (xs : List Row) (r : Row)
    → operation_lines n (xs ++ r ∷ []) ≡ operation_lines n xs ++ operation_line (n + length xs) r
lines_push n [] r =
    let e : n ≡ n + 0 = omega arith in
    append-nil (operation_line n r) ∙ ap (λ k. operation_line k r) e
lines_push n (x ∷ xs) r =
    let e : suc n + length xs ≡ n + suc (length xs) = omega arith in
    ap (λ l. operation_line n x ++ l) (lines_push (suc n) xs r ∙ ap (λ k. operation_lines (suc n) xs ++ operation_line k r) e)
    ∙ sym (append_assoc (operation_line n x) (operation_lines (suc n) xs) (operation_line (n + suc (length xs)) r))

pub lines_more :
    (xs : List Row) (i : ℕ) (d : Row) → i < length xs
    → operation_lines 0 (take (i + 1) xs) ≡ operation_lines 0 (take i xs) ++ operation_line i (get_or xs i d)
lines_more xs i d h =
    let e : 0 + length (take i xs) ≡ i = omega (arith, length-take-le i xs (omega arith)) in
    ap (operation_lines 0) (take_more xs i d h)
    ∙ lines_push 0 (take i xs) (get_or xs i d)
    ∙ ap (λ k. operation_lines 0 (take i xs) ++ operation_line k (get_or xs i d)) e

pub threads_none : (mask : ℕ) → threads_below mask 0 ≡ []
unfolding threads_below
threads_none mask = refl

pub threads_step :
    (mask n : ℕ) → threads_below mask (n + 1) ≡ threads_below mask n ++ cond (bit mask n) (codes " " ++ decimal n) []
unfolding threads_below
threads_step mask n = ap (threads_below mask) (add-one n)
