-- What a header says.
use Rattle.std.specs.Prelude.{◌≡◌, ℕ, List, slice_index}
use Rattle.files.specs.declared.header.Header.{Header}
use Rattle.recording.specs.Bytes.{number_at}
use Rattle.recording.specs.Disciplines.{discipline_number}
use Rattle.files.specs.Files.{count_in}

pub record Heads (file : List ℕ) (h : Header) : Type 0 where
  pub discipline : discipline_number h.discipline ≡ slice_index file 3
  pub mask : h.mask ≡ number_at 8 8 file
  pub count : h.count ≡ count_in file
