-- A file whose header is lawful begins with the header of what it says.
use Rattle.std.proofs.Common.{◌≡◌, ℕ, ◌^◌, ◌<◌, ◌≤◌, List, ◌∷◌, ◌++◌, length, get_or, take, drop, None, sym, refl, ap, ◌∙◌, subst, arith}
use Rattle.std.proofs.lemmas.List.{length-take-le, take-append-drop}
use Rattle.recording.specs.declared.discipline.DisciplineKind.{DisciplineKind}
use Rattle.recording.specs.declared.discipline.DisciplineKind.TheVariants.{FirstInFirstOut, AnyOrder, Timed}
use Rattle.recording.specs.declared.row.Row.{Row}
use Rattle.recording.specs.Bytes.{bytes_of, number_at}
use Rattle.recording.specs.Disciplines.{discipline_number}
use Rattle.files.specs.Files.{Lawful, header_of, file_of, file_fault, count_in}
use Rattle.contents.specs.Reading.{RowsRead}
use Rattle.recording.proofs.FixedLength.{of_length}
use Rattle.files.proofs.LawfulFiles.{long, few, version, letter_0, letter_1, letter_2}
use Rattle.recording.proofs.LowFirst.{bytes_again, number_below}

abbrev parts : List ℕ → List ℕ
parts f =
    get_or f 0 0
    ∷ get_or f 1 0
    ∷ get_or f 2 0
    ∷ get_or f 3 0
    ∷ take 2 (drop 4 f)
    ++ (take 2 (drop 6 f) ++ take 8 (drop 8 f))

parts_front : (h rest : List ℕ) → length h ≡ 16 → parts (h ++ rest) ++ drop 16 (h ++ rest) ≡ h ++ rest
parts_front h rest e =
    of_length 16 (λ h. parts (h ++ rest) ++ drop 16 (h ++ rest) ≡ h ++ rest)
    (λ _ _ _ _ _ _ _ _ _ _ _ _ _ _ _ _. refl) h e

parts_whole : (f : List ℕ) → 16 ≤ length f → parts f ++ drop 16 f ≡ f
parts_whole f l =
    subst (λ x. parts x ++ drop 16 x ≡ x) (take-append-drop 16 f)
    (parts_front (take 16 f) (drop 16 f) (length-take-le 16 f l))

module _ (f : List ℕ) (lawful : file_fault f ≡ None) (fits : (j : ℕ) → get_or f j 0 < 256) where
  header_again : header_of (get_or f 3 0) (number_at 8 8 f) (count_in f) ≡ parts f
  header_again =
      let l = long f lawful in
      let v : bytes_of 2 1 ≡ take 2 (drop 4 f) =
      ap (bytes_of 2) (sym (version f lawful)) ∙ bytes_again 2 4 f (omega arith) fits
      in
      let c = bytes_again 2 6 f (omega arith) fits in
      let m = bytes_again 8 8 f (omega arith) fits in
      λ t.
      sym (letter_0 f lawful) t
      ∷ sym (letter_1 f lawful) t
      ∷ sym (letter_2 f lawful) t
      ∷ get_or f 3 0
      ∷ v t
      ++ (c t ++ m t)

  pub file_again :
      (d m : ℕ) (rows : List Row) → d ≡ get_or f 3 0 → m ≡ number_at 8 8 f → RowsRead f rows
      → f ≡ file_of (record { discipline = d; mask = m; rows = rows })
  file_again d m rows e g r =
      let l = long f lawful in
      sym
      ((λ t. header_of (e t) (g t) (r.count t) ++ r.bytes t)
      ∙ (ap (λ h. h ++ drop 16 f) header_again ∙ parts_whole f (omega arith)))

known : (d : DisciplineKind) → discipline_number d ≤ 2
known FirstInFirstOut = omega arith
known AnyOrder = omega arith
known Timed = omega arith

pub contents_lawful :
    (f : List ℕ) → file_fault f ≡ None → ((j : ℕ) → get_or f j 0 < 256) → (d : DisciplineKind) (m : ℕ) (rows : List Row)
    → m ≡ number_at 8 8 f → RowsRead f rows → Lawful (record { discipline = discipline_number d; mask = m; rows = rows })
contents_lawful f lawful fits d m rows e r =
    record {
      discipline = known d;
      mask = subst (λ n. n < 2 ^ 64) (sym e) (number_below 8 8 f fits);
      count = let l = few f lawful in let c = r.count in omega arith;
      rows = r.lawful_rows;
    }
