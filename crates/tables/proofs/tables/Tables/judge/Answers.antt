use Rattle.std.proofs.Common.{ap, ◌∙◌, subst}
use Rattle.recording.specs.Rows.{row_of}
use Rattle.rules.specs.Acceptance.{Judged}
use Rattle.tables.specs.Judging.{verdict}
use Rattle.tables.proofs.Passed.{bounded}
use Rattle.tables.proofs.Verdicts.{verdict_is}
use Rattle.tables.proofs.tables.Tables.judge.Goals as goal

pub returns : goal.returns
returns c initial held m =
    let tables = c.args.self.now in
    let o = c.args.operation.row in
    subst (λ v. Judged v c.judge_action.result)
    (ap (λ t. verdict tables (row_of t c.action.result)) c.thread.ensures
    ∙ ap (verdict tables) c.action.ensures
    ∙ verdict_is initial held tables m o (bounded o c.args.operation.lawful))
    c.judge_action.ensures
