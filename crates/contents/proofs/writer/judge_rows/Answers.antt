use Rattle.std.proofs.Common.{below_more, rules}
use Rattle.std.proofs.lemmas.Result.{err_from_is_err_and}
use Rattle.recording.specs.Rows.{row_at}
use Rattle.recording.proofs.LawfulRows.{faultless}
use Rattle.contents.proofs.writer.judge_rows.Goals as goal

pub returns-in_err-map_err : goal.returns-in_err-map_err
returns-in_err-map_err c =
    let p = err_from_is_err_and c.from_residual.result c.from_residual.ensures.1 in
    rw p.1
    (record {
      inside = search rules;
      earlier = λ k l. faultless (row_at c.args.rows.now k) (c.loop-number.invariant k (search rules));
      here = search rules;
    })

pub loop-number-preserved : goal.loop-number-preserved
loop-number-preserved c = below_more _ _ c.loop-number.invariant (search rules)
