-- Recordings worked through, and when such an example is right.
use Rattle.std.specs.Prelude.{◌≡◌, ℕ, suc, Bool, true, false, ◌||◌, ◌↔◌, List, [], ◌∷◌, ◌++◌, map, length, ◌==◌, slice_index_or}
use Rattle.std.specs.List.{AllByRecursion}
use Rattle.recording.specs.Disciplines.{discipline_number}
use Rattle.recording.specs.Rows.{blank}
use Rattle.recording.specs.declared.discipline.DisciplineKind.{DisciplineKind}
use Rattle.recording.specs.declared.row.Row.{Row}
use Rattle.files.specs.Files.{file_of}
use Rattle.happens_before.specs.Order.{Precedence, Before}
use Rattle.dispatch.specs.Recorded.{admission_of, precedence_of}
use Rattle.rules.specs.Acceptance.{Setting, opened}
use Rattle.rules.specs.Answers.{RaceList}
use Rattle.rules.specs.Runs.{Call, add, Answer, added, refused, Run, LawfulCall}
use Rattle.rules.specs.declared.race.RaceRow.{RaceRow}
use Rattle.reporting.specs.Lines.{report_text}
use Rattle.reporting.specs.Reports.{Reported}

pub record Example : Type 0 where
  pub discipline : DisciplineKind
  -- the initial threads
  pub mask : ℕ
  -- each operation, with the positions that are before it
  pub lines : List (Row × List ℕ)
  -- all races, in the order of the race list
  pub races : List RaceRow
  -- operations that are refused next, with the number of the refusal
  pub refused : List (Row × ℕ)

module _ (e : Example) where
  abbrev pub operations : List Row
  operations = map (λ l. l.0) e.lines

  -- the positions listed beside position j; past the end none
  abbrev pub listed_before : ℕ → List ℕ
  listed_before j = (slice_index_or e.lines j (blank, [])).1

  abbrev pub precedence : Precedence
  precedence = precedence_of e.discipline

  abbrev pub setting : Setting
  setting = opened (admission_of e.discipline) precedence e.mask

  -- the bytes of its recording
  abbrev pub file : List ℕ
  file =
      file_of (record { discipline = discipline_number e.discipline; mask = e.mask; rows = operations })

  -- its operations are added, then those that are refused
  abbrev pub calls : List Call
  calls = map add operations ++ map (λ r. add r.0) e.refused

-- each operation answers its position, and how many are before it
abbrev pub added_from : ℕ → List (Row × List ℕ) → List Answer
added_from i [] = []
added_from i (l ∷ lines) = added i (length l.1) ∷ added_from (suc i) lines

abbrev pub answers : Example → List Answer
answers e = added_from 0 e.lines ++ map (λ r. refused r.1) e.refused

abbrev pub among : ℕ → List ℕ → Bool
among i [] = false
among i (k ∷ ks) = i == k || among i ks

-- all that the example lists is right, and nothing is missing from it
pub record Stands (e : Example) : Type 0 where
  -- the calls can be made
  pub lawful : AllByRecursion LawfulCall (calls e)
  -- each operation is accepted in its turn, and each that is refused has its number
  pub run : Run (setting e) [] (calls e) (answers e) (operations e)
  -- of any two positions
  pub before : (i j : ℕ) → Before (precedence e) (operations e) i j ↔ (among i (listed_before e j) ≡ true)
  pub races : RaceList (precedence e) (operations e) e.races
  -- its file is taken whole, and the report lists these races
  pub report : Reported (file e) (report_text (length (operations e)) e.races) true
