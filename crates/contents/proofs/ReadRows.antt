-- Reading the records of a file in turn.
use Rattle.std.proofs.Common.{◌≡◌, ℕ, ◌+◌, ◌*◌, ◌<◌, ◌≤◌, true, List, [], ◌∷◌, ◌++◌, length, get_or, take, drop, Some, None, sym, ap, ◌∙◌, subst, ⊎_elim, append-nil, arith, length-append, take-add}
use Rattle.std.proofs.lemmas.List.{get_or_append_left, get_or_push, drop-drop, length-drop, length-take, length-take-le, take_all, get_or-take, get_or-drop, get_or_past}
use Rattle.std.proofs.lemmas.Bool.{cases_lt}
use Rattle.std.proofs.lemmas.Grind.{flat_map-append}
use Rattle.recording.specs.declared.row.Row.{Row}
use Rattle.recording.specs.declared.faults.record.RecordFault.{RecordFault}
use Rattle.files.specs.Files.{records_of, record_at, count_in, FirstUnlawful}
use Rattle.recording.specs.Rows.{row_at}
use Rattle.recording.specs.Lawful.{lawful, fault_in}
use Rattle.contents.specs.Reading.{RowsRead}
use Rattle.recording.specs.Records.{record_of, row_in}
use Rattle.recording.proofs.LawfulRows.{faultless}
use Rattle.recording.proofs.RecordBytes.{record_again}

pub records_push : (xs : List Row) (r : Row) → records_of (xs ++ r ∷ []) ≡ records_of xs ++ record_of r
records_push xs r = flat_map-append record_of xs (r ∷ []) ∙ ap (λ b. records_of xs ++ b) (append-nil (record_of r))

-- the first `number` records are read into `rows`
pub record ReadSoFar (file records : List ℕ) (number : ℕ) (rows : List Row) : Type 0 where
  pub source : records ≡ drop 16 file
  pub count : length rows ≡ number
  pub bytes : records_of rows ≡ take (12 * number) records
  pub earlier : (k : ℕ) → k < number → fault_in (row_in (record_at file k)) ≡ None
  pub lawful_rows : (k : ℕ) → k < length rows → lawful (row_at rows k) ≡ true

part_of : (file records : List ℕ) (n : ℕ) → records ≡ drop 16 file → take 12 (drop (12 * n) records) ≡ record_at file n
part_of file records n e =
    ap (λ b. take 12 (drop (12 * n) b)) e ∙ ap (take 12) (drop-drop (12 * n) 16 file)

lawful_push :
    (rows : List Row) (r : Row) → lawful r ≡ true → ((k : ℕ) → k < length rows → lawful (row_at rows k) ≡ true)
    → (k : ℕ) → k < length (rows ++ r ∷ []) → lawful (row_at (rows ++ r ∷ []) k) ≡ true
lawful_push rows r h old k l =
    let n = length-append rows (r ∷ []) in
    ⊎_elim
    (λ (lt : k < length rows). rw get_or_append_left (old k lt))
    (λ (ge : length rows ≤ k). let q : length rows ≡ k = omega arith in rw get_or_push h)
    (cases_lt k (length rows))

module _
    (file records records' part : List ℕ) (n n' : ℕ) (rows : List Row)
    (so_far : ReadSoFar file records n rows)
    (same : records' ≡ records)
    (moved : n' ≡ n + 1)
    (room : 12 * n' ≤ length records')
    (is : part ≡ take 12 (drop (12 * n) records))
  where
    here : part ≡ record_at file n
    here = is ∙ part_of file records n so_far.source

    whole : length part ≡ 12
    whole =
        let e = ap length same in
        let d = length-drop (12 * n) records in
        ap length is ∙ length-take-le 12 (drop (12 * n) records) (omega arith)

    -- the record at n is the first that is unlawful
    pub stops :
        (count : ℕ) → length file ≡ 16 + 12 * count → (m p : ℕ) (f : RecordFault) → m ≡ p → p ≡ n → fault_in (row_in part) ≡ Some f
        → FirstUnlawful count (λ k. row_in (record_at file k)) m f
    stops count long m p f mp pn e =
        let a = ap length (same ∙ so_far.source) in
        let b = length-drop 16 file in
        let mn : m ≡ n = mp ∙ pn in
        record {
          inside = omega arith;
          earlier = λ k l. so_far.earlier k (omega arith);
          here = ap (λ i. fault_in (row_in (record_at file i))) mn ∙ (ap (λ b. fault_in (row_in b)) (sym here) ∙ e);
        }

    module _
        (fits : (j : ℕ) → get_or file j 0 < 256) (row : Row) (lawful-row : lawful (row_in part) ≡ true) (row_is : row ≡ row_in part)
        (rows' : List Row) (rows_are : rows' ≡ rows ++ row ∷ [])
      where
        part_fits : (j : ℕ) → get_or part j 0 < 256
        part_fits j =
            subst (λ b. get_or b j 0 < 256) (sym here)
            (⊎_elim
            (λ (l : j < 12). rw (get_or-take, get_or-drop) (fits (16 + 12 * n + j)))
            (λ (l : 12 ≤ j).
            let e : length (record_at file n) ≤ j = omega (arith, length-take 12 (drop (16 + 12 * n) file)) in
            rw (get_or_past (record_at file n) j 0 e) (omega arith))
            (cases_lt j 12))

        now_bytes : records_of rows' ≡ take (12 * n') records'
        now_bytes =
            let q : 12 * n + 12 ≡ 12 * n' = omega arith in
            ap records_of rows_are
            ∙ (records_push rows row
            ∙ (ap (λ b. b ++ record_of row) so_far.bytes
            ∙ (ap (λ b. take (12 * n) records ++ b) (ap record_of row_is ∙ (record_again part whole part_fits ∙ is))
            ∙ (sym (take-add (12 * n) 12 records) ∙ (ap (λ k. take k records) q ∙ ap (take (12 * n')) (sym same))))))

        none_earlier : (k : ℕ) → k < n' → fault_in (row_in (record_at file k)) ≡ None
        none_earlier k l =
            ⊎_elim
            (λ (lt : k < n). so_far.earlier k lt)
            (λ (ge : n ≤ k).
            let q : n ≡ k = omega arith in
            ap (λ i. fault_in (row_in (record_at file i))) (sym q)
            ∙ (ap (λ b. fault_in (row_in b)) (sym here) ∙ faultless (row_in part) lawful-row))
            (cases_lt k n)

        pub goes_on : ReadSoFar file records' n' rows'
        goes_on =
            record {
              source = same ∙ so_far.source;
              count =
                  ap length rows_are
                  ∙ (length-append rows (row ∷ []) ∙ (ap (λ k. k + 1) so_far.count ∙ sym moved));
              bytes = now_bytes;
              earlier = none_earlier;
              lawful_rows =
                  subst (λ xs. (k : ℕ) → k < length xs → lawful (row_at xs k) ≡ true) (sym rows_are)
                  (lawful_push rows row (ap lawful row_is ∙ lawful-row) so_far.lawful_rows);
            }

-- no record is left
pub all_read :
    (file records : List ℕ) (n count : ℕ) (rows : List Row) → ReadSoFar file records n rows → length records < 12 * (n + 1)
    → 12 * n ≤ length records → length file ≡ 16 + 12 * count → count ≡ count_in file → RowsRead file rows
all_read file records n count rows so_far short room long e =
    let a = ap length so_far.source in
    let b = length-drop 16 file in
    let q : n ≡ count = omega arith in
    let w : length records ≤ 12 * n = omega arith in
    record {
      count = so_far.count ∙ (q ∙ e);
      bytes = so_far.bytes ∙ (take_all (12 * n) records w ∙ so_far.source);
      lawful_rows = so_far.lawful_rows;
    }
