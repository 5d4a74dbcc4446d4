-- What is added later, or cut off, changes nothing among the rows before it.
use Rattle.std.proofs.Common.{◌≡◌, ℕ, ◌<◌, ◌≤◌, ◌↔◌, List, ◌++◌, length, take, sym, refl, ◌∙◌, ⊎_elim, arith, length-append}
use Rattle.std.proofs.lemmas.Grind.{common_steps}
use Rattle.std.proofs.lemmas.List.{get_or_append_left, length-take}
use Rattle.std.proofs.lemmas.Bool.{cases_lt}
use Rattle.recording.specs.declared.row.Row.{Row}
use Rattle.recording.specs.Rows.{blank}
use Rattle.happens_before.specs.Order.{Precedence, Before}
use Rattle.happens_before.specs.Theorems.{PostedFirst}
use Rattle.happens_before.proofs.Alike.{Alike, alike_rows}
use Rattle.happens_before.proofs.Agree.{Agree, agree_from, before_agree}
use Rattle.happens_before.proofs.Columns.{hb, hb_alike, hb_past}
use Rattle.happens_before.proofs.Least.{before_same}

module _ (trace more : List Row) where
  pub longer : length trace ≤ length (trace ++ more)
  longer = rw (length-append trace more) (omega arith)

  pub alike_extended : Alike (length trace) (trace ++ more) trace
  alike_extended = alike_rows (length trace) (trace ++ more) trace (λ i l. get_or_append_left trace more blank i l)

  pub agree_extended : PostedFirst (trace ++ more) → Agree (length trace) (trace ++ more) trace
  agree_extended = agree_from (length trace) (trace ++ more) trace alike_extended longer refl

  pub posted_first_before : PostedFirst (trace ++ more) → PostedFirst trace
  posted_first_before first = (agree_extended first).posted'

  pub extended : (D : Precedence) (i j : ℕ) → j < length trace → hb D (trace ++ more) i j ≡ hb D trace i j
  extended D i j l = hb_alike D (length trace) (trace ++ more) trace alike_extended longer (omega arith) i j l

  pub extended_before :
      (D : Precedence)
      → PostedFirst (trace ++ more)
      → (i j : ℕ)
      → j < length trace
      → Before D (trace ++ more) i j ↔ Before D trace i j
  extended_before D first = before_agree (agree_extended first) D

module _ (n : ℕ) (trace : List Row) where
  cut_length : (length (take n trace) ≤ n) × (length (take n trace) ≤ length trace)
  cut_length = let e = length-take n trace in omega arith

  pub alike_cut : Alike (length (take n trace)) trace (take n trace)
  alike_cut = grind (arith, common_steps)

  pub agree_cut : PostedFirst trace → Agree (length (take n trace)) trace (take n trace)
  agree_cut = agree_from (length (take n trace)) trace (take n trace) alike_cut cut_length.1 refl

  pub posted_first_cut : PostedFirst trace → PostedFirst (take n trace)
  posted_first_cut first = (agree_cut first).posted'

  pub cut : (D : Precedence) (i j : ℕ) → j < n → hb D (take n trace) i j ≡ hb D trace i j
  cut D i j l =
      ⊎_elim
      (λ u. sym (hb_alike D (length (take n trace)) trace (take n trace) alike_cut cut_length.1 (omega arith) i j u))
      (λ u.
      let e = length-take n trace in
      hb_past D (take n trace) i j u ∙ sym (hb_past D trace i j (omega arith)))
      (cases_lt j (length (take n trace)))

  pub cut_before :
      (D : Precedence)
      → PostedFirst trace
      → (i j : ℕ)
      → j < n
      → Before D (take n trace) i j ↔ Before D trace i j
  cut_before D first i j l = before_same D (take n trace) trace (posted_first_cut first) first i j (cut D i j l)
