-- Faults as text.
use Rattle.std.specs.Prelude.{ℕ, List, ◌++◌, codes, decimal}
use Rattle.recording.specs.Faults.{record_number}
use Rattle.files.specs.declared.faults.read.ReadFault.{ReadFault}
use Rattle.files.specs.declared.faults.read.ReadFault.TheVariants.{File, Record}
use Rattle.files.specs.Faults.{file_number, file_byte}

abbrev pub placed : List ℕ → ℕ → ℕ → List ℕ
placed layer number place = layer ++ (codes " " ++ (decimal number ++ (codes " at " ++ decimal place)))

-- the layer, the number, and the header's byte or the record's number
abbrev pub fault_text : ReadFault → List ℕ
fault_text (File f) = placed (codes "file") (file_number f) (file_byte f)
fault_text (Record r) = placed (codes "record") (record_number r.fault) r.number
