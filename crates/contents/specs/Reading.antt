-- The rows read of a file whose header is lawful.
use Rattle.std.specs.Prelude.{◌≡◌, ℕ, ◌<◌, true, List, length, drop}
use Rattle.recording.specs.declared.row.Row.{Row}
use Rattle.files.specs.Files.{count_in, records_of}
use Rattle.recording.specs.Rows.{row_at}
use Rattle.recording.specs.Lawful.{lawful}

pub record RowsRead (file : List ℕ) (rows : List Row) : Type 0 where
  pub count : length rows ≡ count_in file
  pub bytes : records_of rows ≡ drop 16 file
  pub lawful_rows : (k : ℕ) → k < length rows → lawful (row_at rows k) ≡ true
