-- The lines of a recording.
use Rattle.std.specs.Prelude.{ℕ, zero, suc, Bool, true, cond, List, [], ◌∷◌, ◌++◌, length, codes, decimal, ◌==◌}
use Rattle.recording.specs.Masks.{bit}
use Rattle.recording.specs.declared.row.Row.{Row}
use Rattle.files.specs.Files.{Contents}
use Rattle.recording.specs.Texts.{discipline_name, operation_text}

-- the initial threads below n, a space before each
unfoldable pub threads_below : ℕ → ℕ → List ℕ
threads_below mask zero = []
threads_below mask (suc n) = threads_below mask n ++ cond (bit mask n) (codes " " ++ decimal n) []

abbrev pub threads_text : ℕ → List ℕ
threads_text mask = cond (mask == 0) (codes " none") (threads_below mask 64)

abbrev pub discipline_line : ℕ → List ℕ
discipline_line n = codes "discipline " ++ (decimal n ++ (codes " " ++ (discipline_name n ++ codes "\n")))

abbrev pub threads_line : ℕ → List ℕ
threads_line mask = codes "initial threads" ++ (threads_text mask ++ codes "\n")

abbrev pub count_line : ℕ → List ℕ
count_line n = codes "count " ++ (decimal n ++ codes "\n")

abbrev pub head_lines : Contents → List ℕ
head_lines c = discipline_line c.discipline ++ (threads_line c.mask ++ count_line (length c.rows))

abbrev pub operation_line : ℕ → Row → List ℕ
operation_line n r = decimal n ++ (codes " " ++ (operation_text r ++ codes "\n"))

-- the operations from number n on
abbrev pub operation_lines : ℕ → List Row → List ℕ
operation_lines n [] = []
operation_lines n (r ∷ rows) = operation_line n r ++ operation_lines (suc n) rows

abbrev pub last_line : ℕ → Bool → List ℕ
last_line count same =
    decimal count
    ++ (codes " operations read, written again: " ++ (cond same (codes "same") (codes "other") ++ codes " bytes\n"))

abbrev pub lines_of : Contents → Bool → List ℕ
lines_of c same = head_lines c ++ (operation_lines 0 c.rows ++ last_line (length c.rows) same)

abbrev pub listing_of : Contents → List ℕ
listing_of c = lines_of c true
