-- The lines of a script.
use Rattle.std.specs.Prelude.{◌≡◌, ℕ, ◌^◌, ◌<◌, ◌≤◌, List, codes, decimal, Option, MatchOption, ◌≢◌}
use Rattle.recording.specs.declared.row.Row.{Row}
use Rattle.script.specs.Texts.{before, two}
use Rattle.script.specs.declared.line.Line.{Line}
use Rattle.script.specs.declared.line.Line.TheVariants.{Open, Add, Cut, Order, Class, List as Races}

abbrev pub row_text : Row → List ℕ
row_text r =
    before (decimal r.code)
    (before (decimal r.thread)
    (before (decimal r.item)
    (before (decimal r.target)
    (before (decimal r.marks) (before (decimal r.reserved) (decimal r.delay))))))

abbrev pub RowFits : Row → Type 0
RowFits r =
    (r.code < 2 ^ 8)
    × (r.thread < 2 ^ 8)
    × (r.item < 2 ^ 16)
    × (r.target < 2 ^ 8)
    × (r.marks < 2 ^ 8)
    × (r.reserved < 2 ^ 16)
    × (r.delay < 2 ^ 32)

abbrev pub name_of : Line → List ℕ
name_of (Open d m) = codes "open"
name_of (Add r) = codes "add"
name_of (Cut n) = codes "cut"
name_of (Order i j) = codes "order"
name_of (Class i j) = codes "class"
name_of (Races n) = codes "list"

abbrev pub words_of : Line → List ℕ
words_of (Open d m) = two d m
words_of (Add r) = row_text r
words_of (Cut n) = decimal n
words_of (Order i j) = two i j
words_of (Class i j) = two i j
words_of (Races n) = decimal n

abbrev pub line_text : Line → List ℕ
line_text l = before (name_of l) (words_of l)

-- each number is as wide as its field
abbrev pub LineFits : Line → Type 0
LineFits (Open d m) = (d < 2 ^ 8) × (m < 2 ^ 64)
LineFits (Add r) = RowFits r
LineFits (Cut n) = n < 2 ^ 64
LineFits (Order i j) = (i < 2 ^ 64) × (j < 2 ^ 64)
LineFits (Class i j) = (i < 2 ^ 64) × (j < 2 ^ 64)
LineFits (Races n) = n ≤ 262144

abbrev pub Named : List ℕ → Line → Type 0
Named name l = LineFits l × (name_of l ≡ name)

-- the discipline's number and the mask of the opening that has these bytes, or none where none has them
abbrev pub Opens : List ℕ → Option (ℕ × ℕ) → Type 0
Opens bytes opened =
    MatchOption opened ((d m : ℕ) → LineFits (Open d m) → line_text (Open d m) ≢ bytes)
    (λ x. LineFits (Open x.0 x.1) × (line_text (Open x.0 x.1) ≡ bytes))
