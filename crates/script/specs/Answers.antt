-- Answers as text.
use Rattle.std.specs.Prelude.{ℕ, List, ◌++◌, codes, decimal, flat_map}
use Rattle.rules.specs.Names.{order_name}
use Rattle.rules.specs.declared.race.RaceRow.{RaceRow}
use Rattle.rules.specs.Runs.{Answer, added, cut_to, ordered, classed, listed, needs, refused}

-- a word and a number, as a line
abbrev pub number_line : List ℕ → ℕ → List ℕ
number_line word n = word ++ (decimal n ++ codes "\n")

abbrev pub place_line : RaceRow → List ℕ
place_line p =
    decimal p.earlier ++ (codes " " ++ (decimal p.later ++ (codes " " ++ (decimal p.class ++ codes "\n"))))

abbrev pub place_lines : List RaceRow → List ℕ
place_lines places = flat_map place_line places

abbrev pub answer_lines : Answer → List ℕ
answer_lines (added p b) = codes "added " ++ (decimal p ++ (codes " " ++ (decimal b ++ codes "\n")))
answer_lines (cut_to n) = number_line (codes "cut ") n
answer_lines (ordered o) = order_name o ++ codes "\n"
answer_lines (classed n) = number_line (codes "class ") n
answer_lines (listed n places) = number_line (codes "listed ") n ++ place_lines places
answer_lines (needs n places) = number_line (codes "needs ") n ++ place_lines places
answer_lines (refused n) = number_line (codes "refused ") n
