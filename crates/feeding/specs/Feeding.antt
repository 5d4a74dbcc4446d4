-- What feed answers, and what is held then.
use Rattle.std.specs.Prelude.{◌≡◌, ℕ, zero, suc, ◌<◌, true, List, [], ◌∷◌, ◌++◌, Some, None, Ok, Err, Result}
use Rattle.recording.specs.Lawful.{lawful, fault_in}
use Rattle.recording.specs.declared.row.Row.{Row}
use Rattle.files.specs.Files.{file_fault, count_in, file_row}
use Rattle.rules.specs.Acceptance.{Setting, refusal}
use Rattle.feeding.specs.declared.fault.FeedFault.{FeedFault}
use Rattle.feeding.specs.declared.fault.FeedFault.TheVariants.{File, Record, State}

-- the rows in the first n records of a file
unfoldable pub rows_of : List ℕ → ℕ → List Row
rows_of file zero = []
rows_of file (suc n) = rows_of file n ++ file_row file n ∷ []

-- each of its first n records is lawful and accepted on what is held before it
abbrev pub Taken : Setting → List ℕ → List Row → ℕ → Type 0
Taken s file held n = (k : ℕ) → k < n → (lawful (file_row file k) ≡ true) × (refusal s (held ++ rows_of file k) (file_row file k) ≡ None)

-- the header's fault, and nothing is added; or that of the first record that is not taken, and those before it are added
abbrev pub Feeds : Setting → List ℕ → List Row → Result ℕ FeedFault → List Row → Type 0
Feeds s file held (Ok n) after =
    (file_fault file ≡ None) × (n ≡ count_in file) × Taken s file held n × (after ≡ held ++ rows_of file n)
Feeds s file held (Err (File f)) after = (file_fault file ≡ Some f) × (after ≡ held)
Feeds s file held (Err (Record at)) after =
    (file_fault file ≡ None)
    × (at.number < count_in file)
    × Taken s file held at.number
    × (fault_in (file_row file at.number) ≡ Some at.fault)
    × (after ≡ held ++ rows_of file at.number)
Feeds s file held (Err (State at)) after =
    (file_fault file ≡ None)
    × (at.number < count_in file)
    × Taken s file held at.number
    × (lawful (file_row file at.number) ≡ true)
    × (refusal s (held ++ rows_of file at.number) (file_row file at.number) ≡ Some at.fault)
    × (after ≡ held ++ rows_of file at.number)

-- one record
abbrev pub Takes : Setting → List Row → ℕ → Row → Result Unit FeedFault → List Row → Type 0
Takes s held n o (Ok _) after = (lawful o ≡ true) × (refusal s held o ≡ None) × (after ≡ held ++ o ∷ [])
Takes s held n o (Err (File f)) after = ⊥
Takes s held n o (Err (Record at)) after = (at.number ≡ n) × (fault_in o ≡ Some at.fault) × (after ≡ held)
Takes s held n o (Err (State at)) after =
    (at.number ≡ n) × (lawful o ≡ true) × (refusal s held o ≡ Some at.fault) × (after ≡ held)
