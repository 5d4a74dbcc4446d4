-- The bytes of a recording, and what a file is refused for.
use Rattle.std.specs.Prelude.{◌≡◌, ℕ, ◌+◌, ◌*◌, ◌^◌, ◌<◌, ◌≤◌, Bool, true, not, ◌&&◌, ◌||◌, List, [], ◌∷◌, ◌++◌, length, take, drop, Some, None, Ok, Err, Option, Result, ◌==◌, nat_lt, slice_index}
use Rattle.std.specs.List.{flat_map}
use Rattle.recording.specs.declared.row.Row.{Row}
use Rattle.files.specs.declared.faults.file.FileFault.{FileFault}
use Rattle.files.specs.declared.faults.file.FileFault.TheVariants.{NotARecording, Version, Discipline, Length}
use Rattle.files.specs.declared.faults.read.ReadFault.{ReadFault}
use Rattle.files.specs.declared.faults.read.ReadFault.TheVariants.{File, Record}
use Rattle.recording.specs.declared.faults.record.RecordFault.{RecordFault}
use Rattle.recording.specs.Bytes.{bytes_of, number_at}
use Rattle.recording.specs.Faults.{first}
use Rattle.recording.specs.Lawful.{lawful, fault_in}
use Rattle.recording.specs.Records.{record_of, row_in}
use Rattle.recording.specs.Rows.{row_at}

-- ---- What a recording says, and its bytes

pub record Contents : Type 0 where
  pub discipline : ℕ
  pub mask : ℕ
  pub rows : List Row

pub record Lawful (c : Contents) : Type 0 where
  pub discipline : c.discipline ≤ 2
  pub mask : c.mask < 2 ^ 64
  pub count : length c.rows ≤ 512
  pub rows : (k : ℕ) → k < length c.rows → lawful (row_at c.rows k) ≡ true

abbrev pub records_of : List Row → List ℕ
records_of rows = flat_map record_of rows

-- the mark TLR, the discipline, the version, the count and the mask
abbrev pub header_of : ℕ → ℕ → ℕ → List ℕ
header_of discipline mask count =
    84 ∷ 76 ∷ 82 ∷ discipline ∷ bytes_of 2 1 ++ (bytes_of 2 count ++ bytes_of 8 mask)

abbrev pub file_of : Contents → List ℕ
file_of c = header_of c.discipline c.mask (length c.rows) ++ records_of c.rows

-- ---- What a file is refused for: the header before any record

abbrev pub marked : List ℕ → Bool
marked file = slice_index file 0 == 84 && (slice_index file 1 == 76 && slice_index file 2 == 82)

abbrev pub count_in : List ℕ → ℕ
count_in file = number_at 2 6 file

abbrev pub file_tests : List ℕ → List (Bool × FileFault)
file_tests file =
    (nat_lt (length file) 16 || not (marked file), NotARecording)
    ∷ (not (number_at 2 4 file == 1), Version)
    ∷ (nat_lt 2 (slice_index file 3), Discipline)
    ∷ (nat_lt 512 (count_in file) || not (length file == 16 + 12 * count_in file), Length)
    ∷ []

abbrev pub file_fault : List ℕ → Option FileFault
file_fault file = first (file_tests file)

-- the bytes of record n
abbrev pub record_at : List ℕ → ℕ → List ℕ
record_at file n = take 12 (drop (16 + 12 * n) file)

-- the row in record n
abbrev pub file_row : List ℕ → ℕ → Row
file_row file n = row_in (record_at file n)

-- the first of a list's rows that is no lawful record
pub record FirstUnlawful (count : ℕ) (row : ℕ → Row) (n : ℕ) (f : RecordFault) : Type 0 where
  pub inside : n < count
  pub earlier : (k : ℕ) → k < n → fault_in (row k) ≡ None
  pub here : fault_in (row n) ≡ Some f

-- the fault that a file has
pub data Faulty (file : List ℕ) : ReadFault → Type 0 where
  in_header : {f : FileFault} → file_fault file ≡ Some f → Faulty file (File f)
  in_record :
      {n : ℕ} {f : RecordFault}
      → file_fault file ≡ None
      → FirstUnlawful (count_in file) (file_row file) n f
      → Faulty file (Record (record { number = n; fault = f }))

-- what reading a file answers: the contents whose bytes it is, or its fault
abbrev pub Reads : List ℕ → Result Contents ReadFault → Type 0
Reads file (Ok c) = Lawful c × (file ≡ file_of c)
Reads file (Err f) = Faulty file f
