-- Lists of operations that were each accepted on what stood before.
use Rattle.std.specs.Prelude.{◌≡◌, ℕ, ◌<◌, Bool, true, false, not, ◌&&◌, ◌||◌, List, length, take, None, ◌==◌}
use Rattle.recording.specs.Codes.{post, begin, end}
use Rattle.recording.specs.Lawful.{lawful}
use Rattle.recording.specs.declared.row.Row.{Row}
use Rattle.happens_before.specs.Trace.{row}
use Rattle.rules.specs.Acceptance.{Setting, current, busy, posted, waits, thread_not_ready, wrong_target, wrong_queue, wrong_lock, refusal}

-- each operation is lawful, and was accepted on what stood before it
abbrev pub Fair : Setting → List Row → Type 0
Fair s held =
    (i : ℕ) → i < length held → (lawful (row held i) ≡ true) × (refusal s (take i held) (row held i) ≡ None)

-- ---- The same of the tests that ask nothing of the discipline

-- every post is admitted, and none precedes another
abbrev pub no_discipline : (ℕ → Bool) → Setting
no_discipline initial = record { initial = initial; admission = λ _. true; precedence = λ _ _. false }

abbrev pub turn_without_discipline : List Row → Row → Bool
turn_without_discipline held o =
    (o.code == post && posted held o.item)
    || ((o.code == begin && (busy held o.thread || not (waits held o.thread o.item)))
    || (o.code == end && not (current held o.thread o.item)))

unfoldable pub refused_by_tables : (ℕ → Bool) → List Row → Row → Bool
refused_by_tables initial held o =
    thread_not_ready (no_discipline initial) held o
    || (wrong_target (no_discipline initial) held o
    || (wrong_queue (no_discipline initial) held o
    || (wrong_lock (no_discipline initial) held o || turn_without_discipline held o)))

abbrev pub FairTables : (ℕ → Bool) → List Row → Type 0
FairTables initial held =
    (i : ℕ)
    → i < length held
    → (lawful (row held i) ≡ true) × (refused_by_tables initial (take i held) (row held i) ≡ false)
