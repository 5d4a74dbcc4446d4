-- What an operation is turned away for by the discipline alone.
use Rattle.std.specs.Prelude.{ℕ, Bool, ◌&&◌, List, [], ◌∷◌, Option, ◌==◌}
use Rattle.recording.specs.Codes.{begin}
use Rattle.recording.specs.Faults.{first}
use Rattle.recording.specs.Posts.{marks_in}
use Rattle.recording.specs.declared.marks.Marks.{Marks}
use Rattle.recording.specs.declared.row.Row.{Row}
use Rattle.rules.specs.Acceptance.{Setting, posts_to, waits, overtakes, not_admitted}
use Rattle.rules.specs.declared.faults.StateFault.{StateFault}
use Rattle.rules.specs.declared.faults.StateFault.TheVariants.{OutOfTurn, NotAdmitted}

-- what only the discipline tells
abbrev pub discipline_refusal : Setting → List Row → Row → Option StateFault
discipline_refusal s held o =
    first
    ((o.code == begin && overtakes s.precedence held o.thread o.item, OutOfTurn)
    ∷ (not_admitted s held o, NotAdmitted)
    ∷ [])

-- the row posts a task that waits at thread t and precedes the one that later posts
abbrev pub goes_ahead : (Marks → Marks → Bool) → List Row → ℕ → Row → Row → Bool
goes_ahead precedence held t later o =
    posts_to t o && (waits held t o.item && precedence (marks_in o) (marks_in later))
