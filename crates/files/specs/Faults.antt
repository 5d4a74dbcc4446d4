-- The number and the place of each fault of a header.
use Rattle.std.specs.Prelude.{ℕ}
use Rattle.files.specs.declared.faults.file.FileFault.{FileFault}
use Rattle.files.specs.declared.faults.file.FileFault.TheVariants.{NotARecording, Version, Discipline, Length}

abbrev pub file_number : FileFault → ℕ
file_number NotARecording = 5
file_number Version = 6
file_number Discipline = 7
file_number Length = 8

-- the first byte of the field at fault
abbrev pub file_byte : FileFault → ℕ
file_byte NotARecording = 0
file_byte Version = 4
file_byte Discipline = 3
file_byte Length = 6
