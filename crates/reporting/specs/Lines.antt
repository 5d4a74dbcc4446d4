-- The lines of a report.
use Rattle.std.specs.Prelude.{ℕ, List, ◌++◌, length, codes, decimal, flat_map}
use Rattle.rules.specs.Names.{class_name}
use Rattle.rules.specs.declared.race.RaceRow.{RaceRow}

abbrev pub head_line : ℕ → ℕ → List ℕ
head_line ops races = codes "ops " ++ (decimal ops ++ (codes " races " ++ (decimal races ++ codes "\n")))

abbrev pub race_line : RaceRow → List ℕ
race_line r =
    decimal r.earlier ++ (codes " " ++ (decimal r.later ++ (codes " " ++ (class_name r.class ++ codes "\n"))))

abbrev pub race_lines : List RaceRow → List ℕ
race_lines races = flat_map race_line races

abbrev pub report_text : ℕ → List RaceRow → List ℕ
report_text ops races = head_line ops (length races) ++ race_lines races
