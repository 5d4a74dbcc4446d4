-- Disciplines and operations as text.
use Rattle.std.specs.Prelude.{ℕ, Bool, cond, List, [], ◌∷◌, ◌++◌, Some, None, codes, decimal, Option, slice_index_or}
use Rattle.recording.specs.declared.marks.Marks.{Marks}
use Rattle.recording.specs.declared.row.Row.{Row}
use Rattle.recording.specs.Codes.{has_item, has_target}
use Rattle.recording.specs.Posts.{marks_in}

-- by the discipline's number
abbrev pub discipline_name : ℕ → List ℕ
discipline_name n = slice_index_or (codes "first in first out" ∷ codes "any order" ∷ codes "timed" ∷ []) n []

-- by their codes, from 1
abbrev pub operation_names : List (List ℕ)
operation_names =
    []
    ∷ codes "threadinit"
    ∷ codes "threadexit"
    ∷ codes "fork"
    ∷ codes "join"
    ∷ codes "attachQ"
    ∷ codes "loopOnQ"
    ∷ codes "post"
    ∷ codes "begin"
    ∷ codes "end"
    ∷ codes "acquire"
    ∷ codes "release"
    ∷ codes "enable"
    ∷ codes "read"
    ∷ codes "write"
    ∷ []

abbrev pub operation_name : ℕ → List ℕ
operation_name code = slice_index_or operation_names code []

-- a number behind a comma, where the operation has it
abbrev pub further : Bool → ℕ → List ℕ
further has n = cond has (codes "," ++ decimal n) []

abbrev pub delay_text : Option ℕ → List ℕ
delay_text None = []
delay_text (Some n) = codes ",delay=" ++ decimal n

abbrev pub marks_text : Marks → List ℕ
marks_text m = cond m.environment (codes ",env") [] ++ delay_text m.delay

-- the name, and in parentheses the thread, then the task, lock or location, then the target, as it has them,
-- then the marks
abbrev pub operation_text : Row → List ℕ
operation_text r =
    operation_name r.code
    ++ (codes "("
    ++ (decimal r.thread
    ++ (further (has_item r.code) r.item
    ++ (further (has_target r.code) r.target ++ (marks_text (marks_in r) ++ codes ")")))))
