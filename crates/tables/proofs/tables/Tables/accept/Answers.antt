use Rattle.std.proofs.Common.{◌<◌, rules, subst}
use Rattle.tables.proofs.Agreement.{one_more}
use Rattle.tables.proofs.tables.Tables.accept.Goals as goal

pub returns-clause-agrees : goal.returns-clause-agrees
returns-clause-agrees c initial held m none next few =
    let operation = c.args.operation in
    one_more initial held operation.row c.args.self.now m operation.lawful none (subst (λ n. n < 512) next few)
    c.args.position next _ (search rules)
