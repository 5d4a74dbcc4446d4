-- Reading what was written gives it back.
use Rattle.std.proofs.Common.{◌≡◌, ℕ, zero, suc, ◌+◌, ◌*◌, ◌<◌, true, false, cond, not, ◌||◌, List, [], ◌∷◌, ◌++◌, length, get_or, take, drop, is_some, Some, None, Ok, Err, sym, ap, ◌∙◌, subst, arith, length-append, ext_get_or, le-ltb, eq-eqb}
use lib.Seq.{take-append_seam, drop-append-add}
use borrow.Author.Tests.{clash}
use Rattle.std.proofs.lemmas.List.{drop-drop}
use Rattle.files.specs.declared.faults.file.FileFault.TheVariants.{NotARecording, Discipline, Length}
use Rattle.recording.specs.declared.row.Row.{Row}
use Rattle.recording.specs.Bytes.{number_at}
use Rattle.files.specs.Files.{Contents, Lawful, header_of, records_of, file_of, file_fault, count_in, record_at}
use Rattle.recording.specs.Rows.{row_at}
use Rattle.files.specs.Files.Faulty.{in_header, in_record}
use Rattle.recording.specs.Lawful.{lawful, fault_in}
use Rattle.recording.specs.Records.{record_of, row_in}
use Rattle.recording.specs.Rows.{plain}
use Rattle.contents.specs.Writing.{ReadBack}
use Rattle.recording.proofs.LawfulRows.{faultless, item_fits, delay_fits, no_reserved}
use Rattle.recording.proofs.LowFirst.{number_again}
use Rattle.recording.proofs.RecordBytes.{row_again}
use Rattle.contents.proofs.WrittenRecords.{length_records}

never : {F : Type 0} {A : Type 0} (f : F) → None ≡ Some f → A
never {F} f e = absurd (clash (ap (is_some {T = F}) e))

lawful_again : (r : Row) → lawful r ≡ true → row_in (record_of r) ≡ r
lawful_again r h =
    let z = no_reserved r h in
    row_again r (item_fits r h) (omega arith) (delay_fits r h)

record_in : (rows : List Row) (k : ℕ) → k < length rows → take 12 (drop (12 * k) (records_of rows)) ≡ record_of (row_at rows k)
record_in [] k l = absurd (omega arith)
record_in (r ∷ rows) zero l = take-append_seam (record_of r) (records_of rows)
record_in (r ∷ rows) (suc k) l =
    let q : 12 * suc k ≡ 12 + 12 * k = omega arith in
    ap (λ n. take 12 (drop n (record_of r ++ records_of rows))) q
    ∙ (ap (take 12) (drop-append-add (record_of r) (records_of rows) (12 * k)) ∙ record_in rows k (omega arith))

module _ (c : Contents) (h : Lawful c) where
  pub file_long : length (file_of c) ≡ 16 + 12 * length c.rows
  file_long =
      length-append (header_of c.discipline c.mask (length c.rows)) (records_of c.rows)
      ∙ ap (λ n. 16 + n) (length_records c.rows)

  count_again : count_in (file_of c) ≡ length c.rows
  count_again = let l = h.count in number_again 2 (length c.rows) (omega arith)

  mask_again : number_at 8 8 (file_of c) ≡ c.mask
  mask_again = number_again 8 c.mask h.mask

  row_here : (k : ℕ) → k < length c.rows → row_in (record_at (file_of c) k) ≡ row_at c.rows k
  row_here k l =
      ap (λ b. row_in (take 12 b)) (sym (drop-drop (12 * k) 16 (file_of c)))
      ∙ (ap row_in (record_in c.rows k l) ∙ lawful_again (row_at c.rows k) (h.rows k l))

  no_file_fault : file_fault (file_of c) ≡ None
  no_file_fault =
      let l = file_long in
      let n = h.count in
      let n' = count_again in
      let long = le-ltb (length (file_of c)) 16 (omega arith) in
      let discipline = le-ltb 2 c.discipline h.discipline in
      let few = le-ltb 512 (count_in (file_of c)) (omega arith) in
      let fitting : length (file_of c) ≡ 16 + 12 * count_in (file_of c) = omega arith in
      let fits = eq-eqb (length (file_of c)) (16 + 12 * count_in (file_of c)) fitting in
      λ t.
      cond (long t || false) (Some NotARecording)
      (cond (discipline t) (Some Discipline) (cond (few t || not (fits t)) (Some Length) None))

rows_again : (c : Contents) → Lawful c → (d : Contents) → Lawful d → file_of c ≡ file_of d → c.rows ≡ d.rows
rows_again c h d g e =
    let n : length c.rows ≡ length d.rows = sym (count_again c h) ∙ (ap count_in e ∙ count_again d g) in
    ext_get_or (plain 0 0 0 0) c.rows d.rows n
    (λ i l. sym (row_here c h i l) ∙ (ap (λ f. row_in (record_at f i)) e ∙ row_here d g i (omega arith)))

pub read_back : (c : Contents) → Lawful c → ReadBack c
read_back c h (Ok d) (g, e) =
    λ t.
    Ok
    (record {
      discipline = sym (ap (λ f. get_or f 3 0) e) t;
      mask = (sym (mask_again d g) ∙ (ap (number_at 8 8) (sym e) ∙ mask_again c h)) t;
      rows = sym (rows_again c h d g e) t;
    })
read_back c h (Err f) (in_header {f = g} e) = never g (sym (no_file_fault c h) ∙ e)
read_back c h (Err f) (in_record {n = n} {f = g} e u) =
    let l : n < length c.rows = subst (λ k. n < k) (count_again c h) u.inside in
    never g (sym (faultless (row_at c.rows n) (h.rows n l)) ∙ (ap fault_in (sym (row_here c h n l)) ∙ u.here))
