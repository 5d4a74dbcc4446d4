-- What the tables do not refuse.
use Rattle.std.proofs.Common.{arith, ◌≡◌, ℕ, Bool, false, List, None}
use Rattle.std.proofs.lemmas.Grind.{common_steps}
use Rattle.recording.specs.declared.row.Row.{Row}
use Rattle.rules.specs.Fair.{refused_by_tables}
use Rattle.rules.proofs.Fair.{allowed}
use Rattle.tables.specs.Matches.{table_refusal}
use Rattle.tables.proofs.Verdicts.{never_overtakes}

pub allowed_none : (initial : ℕ → Bool) (held : List Row) (o : Row) → refused_by_tables initial held o ≡ false → table_refusal initial held o ≡ None
unfolding table_refusal
allowed_none initial held o h =
    let a = allowed initial held o h in
    let n = never_overtakes held o.thread o.item in
    grind (arith, common_steps)
