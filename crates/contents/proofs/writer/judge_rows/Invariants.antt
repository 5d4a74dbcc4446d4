use Rattle.std.proofs.Common.{◌≡◌, ℕ, ◌<◌, true}
use Rattle.recording.specs.Rows.{row_at}
use Rattle.recording.specs.Lawful.{lawful}
use Rattle.contents.proofs.writer.judge_rows.Given as goal

abbrev pub invariant-loop-number : goal.invariant-loop-number
invariant-loop-number l = (k : ℕ) → k < l.number-counter → lawful (row_at l.rows k) ≡ true
