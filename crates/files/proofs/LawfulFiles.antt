-- What a lawful header gives.
use Rattle.std.proofs.Common.{◌≡◌, ℕ, ◌+◌, ◌*◌, ◌≤◌, List, length, get_or, None, rules}
use Rattle.recording.specs.Bytes.{number_at}
use Rattle.files.specs.Files.{file_fault, count_in}

module _ (file : List ℕ) (h : file_fault file ≡ None) where
  pub long : length file ≡ 16 + 12 * count_in file
  long = search rules

  pub few : count_in file ≤ 512
  few = search rules

  pub version : number_at 2 4 file ≡ 1
  version = search rules

  pub letter_0 : get_or file 0 0 ≡ 84
  letter_0 = search rules

  pub letter_1 : get_or file 1 0 ≡ 76
  letter_1 = search rules

  pub letter_2 : get_or file 2 0 ≡ 82
  letter_2 = search rules
