-- The records in a buffer, one record further.
use Rattle.std.proofs.Common.{◌≡◌, ℕ, ◌+◌, ◌*◌, ◌<◌, ◌≤◌, List, [], ◌∷◌, ◌++◌, length, take, drop, sym, refl, ap, ◌∙◌, append_assoc, arith, length-append}
use lib.Seq.{drop-append-add}
use Rattle.std.proofs.lemmas.List.{take_more, drop-drop, length-take-le, take_at}
use Rattle.recording.specs.declared.row.Row.{Row}
use Rattle.files.specs.Files.{Contents, header_of, records_of, file_of}
use Rattle.recording.specs.Rows.{row_at}
use Rattle.recording.specs.Records.{record_of}
use Rattle.contents.proofs.ReadRows.{records_push}

pub length_records : (rows : List Row) → length (records_of rows) ≡ 12 * length rows
length_records [] = refl
length_records (r ∷ rows) =
    let e = length_records rows in
    length-append (record_of r) (records_of rows) ∙ omega arith

-- what the buffer holds once n records are put
abbrev pub filled : List Row → List ℕ → ℕ → List ℕ
filled rows old n = take 16 old ++ (records_of (take n rows) ++ drop (16 + 12 * n) old)

module _ (rows : List Row) (old : List ℕ) (room : 16 + 12 * length rows ≤ length old) where
  front_long : (n : ℕ) → n ≤ length rows → length (take 16 old ++ records_of (take n rows)) ≡ 16 + 12 * n
  front_long n l =
      let a = length-take-le 16 old (omega arith) in
      let b = length_records (take n rows) in
      let c = length-take-le n rows l in
      length-append (take 16 old) (records_of (take n rows)) ∙ omega arith

  split : (n : ℕ) → filled rows old n ≡ (take 16 old ++ records_of (take n rows)) ++ drop (16 + 12 * n) old
  split n = sym (append_assoc (take 16 old) (records_of (take n rows)) (drop (16 + 12 * n) old))

  pub one_more :
      (n at : ℕ) (buffer buffer' bytes : List ℕ) → n < length rows → at ≡ 16 + 12 * n → buffer ≡ filled rows old n → bytes ≡ record_of (row_at rows n)
      → buffer' ≡ take at buffer ++ (bytes ++ drop (at + length bytes) buffer) → buffer' ≡ filled rows old (n + 1)
  one_more n at buffer buffer' bytes l q e f g =
      let front = take 16 old ++ records_of (take n rows) in
      let rest = drop (16 + 12 * n) old in
      let is = e ∙ split n in
      let long : length front ≡ at = front_long n (omega arith) ∙ sym q in
      let twelve : length bytes ≡ 12 = ap length f in
      let past : at + length bytes ≡ length front + 12 = omega arith in
      let end : 16 + 12 * n + 12 ≡ 16 + 12 * (n + 1) = omega arith in
      g
      ∙ (ap (λ b. take at b ++ (bytes ++ drop (at + length bytes) b)) is
      ∙ (ap (λ b. b ++ (bytes ++ drop (at + length bytes) (front ++ rest))) (take_at front rest at long)
      ∙ (ap (λ b. front ++ (bytes ++ b))
      (ap (λ k. drop k (front ++ rest)) past
      ∙ (drop-append-add front rest 12 ∙ (drop-drop 12 (16 + 12 * n) old ∙ ap (λ k. drop k old) end)))
      ∙ (ap (λ b. front ++ (b ++ drop (16 + 12 * (n + 1)) old)) f
      ∙ (append_assoc (take 16 old) (records_of (take n rows)) (record_of (row_at rows n) ++ drop (16 + 12 * (n + 1)) old)
      ∙ ap (λ b. take 16 old ++ b)
      (sym (append_assoc (records_of (take n rows)) (record_of (row_at rows n)) (drop (16 + 12 * (n + 1)) old))
      ∙ ap (λ b. b ++ drop (16 + 12 * (n + 1)) old)
      (sym (ap records_of (take_more rows n _ l) ∙ records_push (take n rows) (row_at rows n)))))))))

-- the header first, then the records
pub whole_file :
    (c : Contents) (old header middle new : List ℕ) → header ≡ header_of c.discipline c.mask (length c.rows)
    → middle ≡ header ++ drop (0 + length header) old
    → new ≡ take 16 middle ++ (records_of c.rows ++ drop (16 + 12 * length c.rows) middle)
    → new ≡ file_of c ++ drop (16 + 12 * length c.rows) old
whole_file c old header middle new e f g =
    let n = length c.rows in
    let head = header_of c.discipline c.mask n in
    let is : middle ≡ head ++ drop 16 old = f ∙ (λ t. e t ++ drop (0 + length (e t)) old) in
    g
    ∙ (ap (λ b. take 16 b ++ (records_of c.rows ++ drop (16 + 12 * n) b)) is
    ∙ (ap (λ b. head ++ (records_of c.rows ++ b))
    (drop-append-add head (drop 16 old) (12 * n) ∙ drop-drop (12 * n) 16 old)
    ∙ sym (append_assoc head (records_of c.rows) (drop (16 + 12 * n) old))))
