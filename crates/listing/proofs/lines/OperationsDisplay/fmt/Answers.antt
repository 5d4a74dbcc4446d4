use Rattle.std.proofs.Common.{vec_items, sym, rules}
use Rattle.std.proofs.Output.{has_written_of_eq, has_written_append}
use Rattle.recording.specs.Rows.{blank}
use Rattle.listing.proofs.MoreLines.{lines_more}
use Rattle.listing.proofs.lines.OperationsDisplay.fmt.Goals as goal

pub loop-number-preserved : goal.loop-number-preserved
loop-number-preserved g c =
    λ plain.
    let rows = vec_items c.args.self.now.0.now.rows in
    has_written_of_eq _ _ _ _ _ (sym (lines_more rows c.loop-number.number-counter blank (search rules)))
    (has_written_append _ _ _ _ _ _ (c.loop-number.invariant plain) (search rules))
