-- A renaming leaves a trace alike, and so its order as it was.
use Rattle.std.proofs.Common.{◌≡◌, ℕ, ◌<◌, Bool, true, cond, ◌↔◌, List, map, length, sym, ap, ◌∙◌, subst, ⊎_elim, arith}
use Rattle.std.proofs.lemmas.Grind.{common_steps}
use lib.ListN.{length-map}
use Rattle.std.proofs.lemmas.List.{get_or-map}
use Rattle.std.proofs.lemmas.Bool.{cases_lt}
use Rattle.recording.specs.Codes.{has_target, has_task, has_lock, has_location}
use Rattle.recording.specs.Posts.{marks_in}
use Rattle.recording.specs.declared.row.Row.{Row}
use Rattle.happens_before.specs.Trace.{row, code, thread, item, target}
use Rattle.recording.specs.Rows.{blank}
use Rattle.happens_before.specs.Order.{Precedence, Before}
use Rattle.happens_before.specs.Renaming.{Permutation, Renaming, renamed}
use Rattle.happens_before.specs.Theorems.{PostedFirst, AllInRange}
use Rattle.happens_before.proofs.Alike.{Kind, task, lock, location, nothing, kind, Alike}
use Rattle.happens_before.proofs.Columns.{hb, hb_alike, hb_past}
use Rattle.happens_before.proofs.Least.{before_same}
use Rattle.happens_before.proofs.Agree.{Agree, agree_from}

one_to_one : {n : ℕ} (p : Permutation n) (a b : ℕ) → a < n → b < n → (a ≡ b) ↔ (p.to a ≡ p.to b)
one_to_one p a b l u = (ap p.to, λ e. sym (p.back_to a l) ∙ (ap p.back e ∙ p.back_to b u))

-- ---- Items by their kind

item_to : Renaming → Kind → ℕ → ℕ
item_to m task x = m.tasks.to x
item_to m lock x = m.locks.to x
item_to m location x = m.locations.to x
item_to m nothing x = x

Fits : Kind → ℕ → Type 0
Fits task x = x < 512
Fits lock x = x < 64
Fits location x = x < 65536
Fits nothing x = Unit {0}

item_one_to_one :
    (m : Renaming) (k : Kind) (x y : ℕ) → Fits k x → Fits k y → (x ≡ y) ↔ (item_to m k x ≡ item_to m k y)
unfolding item_to Fits
item_one_to_one m task x y l u = one_to_one m.tasks x y l u
item_one_to_one m lock x y l u = one_to_one m.locks x y l u
item_one_to_one m location x y l u = one_to_one m.locations x y l u
item_one_to_one m nothing x y l u = (λ e. e, λ e. e)

-- of the three tests that tell the kind
abbrev kind_by : Bool → Bool → Bool → Kind
kind_by t l o = cond t task (cond l lock (cond o location nothing))

item_by :
    (m : Renaming) (t l o : Bool) (x : ℕ)
    → cond t (m.tasks.to x) (cond l (m.locks.to x) (cond o (m.locations.to x) x)) ≡ item_to m (kind_by t l o) x
unfolding item_to
item_by m t l o x = grind (arith, common_steps)

fits_by :
    (t l o : Bool) (x : ℕ)
    → (t ≡ true → x < 512)
    → (l ≡ true → x < 64)
    → (o ≡ true → x < 65536)
    → Fits (kind_by t l o) x
unfolding Fits
fits_by t l o x p q r = grind (arith, common_steps)

module _ (m : Renaming) (trace : List Row) (ranged : AllInRange trace) where
  new : List Row
  new = map (renamed m) trace

  same_row : (i : ℕ) → i < length trace → row new i ≡ renamed m (row trace i)
  unfolding new
  same_row i l = get_or-map (renamed m) trace i blank blank l

  new_thread : (i : ℕ) → i < length trace → thread new i ≡ m.threads.to (thread trace i)
  new_thread i l = ap (λ r. r.thread) (same_row i l)

  new_target :
      (i : ℕ) → i < length trace → has_target (code trace i) ≡ true → target new i ≡ m.threads.to (target trace i)
  new_target i l t =
      ap (λ r. r.target) (same_row i l) ∙ ap (λ b. cond b (m.threads.to (target trace i)) (target trace i)) t

  new_item : (i : ℕ) → i < length trace → item new i ≡ item_to m (kind (code trace i)) (item trace i)
  new_item i l =
      ap (λ r. r.item) (same_row i l)
      ∙ item_by m (has_task (code trace i)) (has_lock (code trace i)) (has_location (code trace i)) (item trace i)

  item_fits : (i : ℕ) → i < length trace → Fits (kind (code trace i)) (item trace i)
  item_fits i l =
      let r = ranged i l in
      fits_by (has_task (code trace i)) (has_lock (code trace i)) (has_location (code trace i)) (item trace i)
      r.2 r.3 r.4

  -- an equation between names holds of the new ones as it did of the old ones
  moved : (a b x y u v : ℕ) → (a ≡ b) ↔ (x ≡ y) → u ≡ x → v ≡ y → (a ≡ b) ↔ (u ≡ v)
  moved a b x y u v e p q = (λ h. p ∙ (e.0 h ∙ sym q), λ h. e.1 (sym p ∙ (h ∙ q)))

  alike_new : Alike (length trace) trace new
  alike_new =
      record {
        codes = λ i l. sym (ap (λ r. r.code) (same_row i l));
        marked = λ i l. sym (ap marks_in (same_row i l));
        threads =
            λ i j l u.
            moved _ _ _ _ _ _ (one_to_one m.threads _ _ (ranged i l).0 (ranged j u).0) (new_thread i l) (new_thread j u);
        targets =
            λ i j l u t.
            moved _ _ _ _ _ _
            (one_to_one m.threads _ _ ((ranged i l).1 t) (ranged j u).0) (new_target i l t) (new_thread j u);
        items =
            λ i j l u k.
            moved _ _ _ _ _ _
            (item_one_to_one m (kind (code trace j)) _ _ (subst (λ c. Fits c (item trace i)) k (item_fits i l)) (item_fits j u))
            (new_item i l ∙ ap (λ c. item_to m c (item trace i)) k) (new_item j u);
      }

module _ (m : Renaming) (trace : List Row) (ranged : AllInRange trace) where
  pub alike_renamed : Alike (length trace) trace (map (renamed m) trace)
  unfolding new
  alike_renamed = alike_new m trace ranged

  pub renamed_length : length (map (renamed m) trace) ≡ length trace
  renamed_length = length-map trace (renamed m)

  pub agree_renamed : PostedFirst trace → Agree (length trace) trace (map (renamed m) trace)
  agree_renamed = agree_from (length trace) trace (map (renamed m) trace) alike_renamed (omega arith) renamed_length

  pub posted_first_renamed : PostedFirst trace → PostedFirst (map (renamed m) trace)
  posted_first_renamed first = (agree_renamed first).posted'

  pub renamed_hb : (D : Precedence) (i j : ℕ) → hb D (map (renamed m) trace) i j ≡ hb D trace i j
  renamed_hb D i j =
      let e = renamed_length in
      ⊎_elim
      (λ l.
      sym (hb_alike D (length trace) trace (map (renamed m) trace) alike_renamed (omega arith) (omega arith) i j l))
      (λ l. hb_past D (map (renamed m) trace) i j (omega arith) ∙ sym (hb_past D trace i j l))
      (cases_lt j (length trace))

  pub renamed_before :
      (D : Precedence) → PostedFirst trace → (i j : ℕ) → Before D (map (renamed m) trace) i j ↔ Before D trace i j
  renamed_before D first i j =
      before_same D (map (renamed m) trace) trace (posted_first_renamed first) first i j (renamed_hb D i j)
