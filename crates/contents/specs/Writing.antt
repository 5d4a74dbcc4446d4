-- What writing a recording answers, and what it leaves in the buffer.
use Rattle.std.specs.Prelude.{◌≡◌, ℕ, ◌<◌, ◌≤◌, List, ◌++◌, length, drop, Ok, Err, Result}
use Rattle.files.specs.declared.faults.file.FileFault.TheVariants.{Discipline, Length}
use Rattle.files.specs.declared.faults.read.ReadFault.{ReadFault}
use Rattle.recording.specs.declared.faults.record.RecordFault.{RecordFault}
use Rattle.contents.specs.declared.faults.write.WriteFault.{WriteFault}
use Rattle.contents.specs.declared.faults.write.WriteFault.TheVariants.{File, Record, TooShort}
use Rattle.files.specs.Files.{Contents, Lawful, Reads, FirstUnlawful, file_of}
use Rattle.recording.specs.Rows.{row_at}

-- the first refusal that applies, where the buffer has so many places
pub data Refused (c : Contents) (places : ℕ) : WriteFault → Type 0 where
  no_discipline : 2 < c.discipline → Refused c places (File Discipline)
  too_many : c.discipline ≤ 2 → 512 < length c.rows → Refused c places (File Length)
  unlawful_row :
      {n : ℕ} {f : RecordFault}
      → c.discipline ≤ 2
      → length c.rows ≤ 512
      → FirstUnlawful (length c.rows) (row_at c.rows) n f
      → Refused c places (Record (record { number = n; fault = f }))
  too_short : Lawful c → places < length (file_of c) → Refused c places (TooShort (length (file_of c)))

-- bytes past the recording stay, and a refusal leaves the buffer as it was
abbrev pub Writes : Contents → List ℕ → Result ℕ WriteFault → List ℕ → Type 0
Writes c before (Ok n) after =
    Lawful c × (n ≡ length (file_of c)) × (n ≤ length before) × (after ≡ file_of c ++ drop n before)
Writes c before (Err f) after = Refused c (length before) f × (after ≡ before)

-- reading the bytes gives the contents back
abbrev pub ReadBack : Contents → Type 0
ReadBack c = (answer : Result Contents ReadFault) → Reads (file_of c) answer → answer ≡ Ok c
