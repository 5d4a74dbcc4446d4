-- A record's bytes.
use Rattle.std.proofs.Common.{◌≡◌, ℕ, ◌<◌, List, ◌∷◌, ◌++◌, length, get_or, take, drop, refl, ◌∙◌, arith}
use Rattle.recording.specs.declared.row.Row.{Row}
use Rattle.recording.specs.Records.{record_of, row_in}
use Rattle.recording.proofs.FixedLength.{of_length}
use Rattle.recording.proofs.LowFirst.{bytes_again, number_again}

abbrev parts : List ℕ → List ℕ
parts b =
    get_or b 0 0
    ∷ get_or b 1 0
    ∷ take 2 (drop 2 b)
    ++ (get_or b 4 0 ∷ get_or b 5 0 ∷ take 2 (drop 6 b) ++ take 4 (drop 8 b))

parts_whole : (b : List ℕ) → length b ≡ 12 → parts b ≡ b
parts_whole = of_length 12 (λ b. parts b ≡ b) (λ _ _ _ _ _ _ _ _ _ _ _ _. refl)

pub record_again : (b : List ℕ) → length b ≡ 12 → ((j : ℕ) → get_or b j 0 < 256) → record_of (row_in b) ≡ b
record_again b e fits =
    let i = bytes_again 2 2 b (omega arith) fits in
    let s = bytes_again 2 6 b (omega arith) fits in
    let d = bytes_again 4 8 b (omega arith) fits in
    (λ t. get_or b 0 0 ∷ get_or b 1 0 ∷ i t ++ (get_or b 4 0 ∷ get_or b 5 0 ∷ s t ++ d t)) ∙ parts_whole b e

pub row_again : (r : Row) → r.item < 65536 → r.reserved < 65536 → r.delay < 4294967296 → row_in (record_of r) ≡ r
row_again r h k l =
    let i = number_again 2 r.item h in
    let s = number_again 2 r.reserved k in
    let d = number_again 4 r.delay l in
    λ t.
    record {
      code = r.code;
      thread = r.thread;
      item = i t;
      target = r.target;
      marks = r.marks;
      reserved = s t;
      delay = d t;
    }
