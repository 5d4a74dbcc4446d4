-- A trace is a list of rows; its positions count from 0.
use Rattle.std.specs.Prelude.{◌≡◌, ℕ, ◌<◌, ◌≤◌, List}
use Rattle.recording.specs.Codes.{begin, end, post}
use Rattle.recording.specs.Posts.{marks_in}
use Rattle.recording.specs.Rows.{row_at}
use Rattle.recording.specs.declared.marks.Marks.{Marks}
use Rattle.recording.specs.declared.row.Row.{Row}

abbrev pub row : List Row → ℕ → Row
row trace i = row_at trace i

abbrev pub code : List Row → ℕ → ℕ
code trace i = (row trace i).code

abbrev pub thread : List Row → ℕ → ℕ
thread trace i = (row trace i).thread

-- the task, the lock or the location
abbrev pub item : List Row → ℕ → ℕ
item trace i = (row trace i).item

abbrev pub target : List Row → ℕ → ℕ
target trace i = (row trace i).target

abbrev pub marks : List Row → ℕ → Marks
marks trace i = marks_in (row trace i)

-- thread t does the operation with code c on task p at position i
abbrev pub Does : List Row → ℕ → ℕ → ℕ → ℕ → Type 0
Does trace i c t p = (code trace i ≡ c) × (thread trace i ≡ t) × (item trace i ≡ p)

-- i belongs to task p: its thread began p at i or before, and did not end p from there up to i
abbrev pub Belongs : List Row → ℕ → ℕ → Type 0
Belongs trace i p =
    (b : ℕ)
    × (b ≤ i)
    × Does trace b begin (thread trace i) p
    × ((e : ℕ) → b ≤ e → e < i → Does trace e end (thread trace i) p → ⊥)

-- a is a post of task p
abbrev pub Posts : List Row → ℕ → ℕ → Type 0
Posts trace a p = (code trace a ≡ post) × (item trace a ≡ p)
