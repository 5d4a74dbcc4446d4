-- The twelve bytes of a record.
use Rattle.std.specs.Prelude.{ℕ, List, ◌∷◌, ◌++◌, slice_index}
use Rattle.recording.specs.declared.row.Row.{Row}
use Rattle.recording.specs.Bytes.{bytes_of, number_at}

abbrev pub record_of : Row → List ℕ
record_of r =
    r.code
    ∷ r.thread
    ∷ bytes_of 2 r.item
    ++ (r.target ∷ r.marks ∷ bytes_of 2 r.reserved ++ bytes_of 4 r.delay)

abbrev pub row_in : List ℕ → Row
row_in b =
    record {
      code = slice_index b 0;
      thread = slice_index b 1;
      item = number_at 2 2 b;
      target = slice_index b 4;
      marks = slice_index b 5;
      reserved = number_at 2 6 b;
      delay = number_at 4 8 b;
    }
