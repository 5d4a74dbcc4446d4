-- What the report of a file says.
use Rattle.std.specs.Prelude.{◌≡◌, ℕ, Bool, true, false, List, [], ◌++◌, Ok, Err, string_bytes, codes, slice_index}
use Rattle.recording.specs.Bytes.{number_at}
use Rattle.recording.specs.Disciplines.{discipline_at}
use Rattle.recording.specs.declared.row.Row.{Row}
use Rattle.dispatch.specs.Recorded.{admission_of, precedence_of}
use Rattle.rules.specs.Acceptance.{Setting, opened}
use Rattle.rules.specs.Answers.{RaceList}
use Rattle.rules.specs.declared.race.RaceRow.{RaceRow}
use Rattle.feeding.specs.Feeding.{Feeds}
use Rattle.feeding.specs.Texts.{feed_text}
use Rattle.feeding.specs.declared.fault.FeedFault.{FeedFault}
use Rattle.reporting.specs.Lines.{report_text}
use Rattle.reporting.specs.declared.report.ReportLines.{ReportLines}
use Rattle.reporting.specs.declared.report.ReportLines.TheVariants.{Races, Fault}

-- the discipline and the initial threads that a file names
abbrev pub setting_in : List ℕ → Setting
setting_in file = let d = discipline_at (slice_index file 3) in opened (admission_of d) (precedence_of d) (number_at 8 8 file)

-- all records are taken under the file's own setting, and the races of what is then held are listed;
-- or the file has a fault, which is the only line
pub data Reported (file : List ℕ) : List ℕ → Bool → Type 0 where
  examined :
      (n : ℕ) (held : List Row) (races : List RaceRow)
      → Feeds (setting_in file) file [] (Ok n) held
      → RaceList (setting_in file).precedence held races
      → Reported file (report_text n races) true
  refused :
      (f : FeedFault) (held : List Row)
      → Feeds (setting_in file) file [] (Err f) held
      → Reported file (feed_text f ++ codes "\n") false

abbrev pub lines_of : ReportLines → List ℕ
lines_of (Races text) = string_bytes text
lines_of (Fault text) = string_bytes text

-- whether the file has no fault
abbrev pub is_accepted : ReportLines → Bool
is_accepted (Races text) = true
is_accepted (Fault text) = false

-- the line of this fault
abbrev pub Refuses : FeedFault → ReportLines → Type 0
Refuses f report = (lines_of report ≡ feed_text f ++ codes "\n") × (is_accepted report ≡ false)
