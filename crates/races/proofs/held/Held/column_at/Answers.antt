use Rattle.std.proofs.Common.{unwrap_or, ap, ◌∙◌, arith}
use Rattle.columns.specs.Positions.{has}
use Rattle.columns.specs.declared.column.Column.{Column}
use Rattle.races.proofs.Classes.{column_or}
use Rattle.races.proofs.held.Held.column_at.Goals as goal

pub returns : goal.returns
returns c k =
    ap (λ (x : Column). has x k) (c.unwrap_or.ensures ∙ ap (λ o. unwrap_or o c.empty.result) c.copied.ensures ∙ c.get.ensures.lookup.4 (omega arith) c.empty.result)
    ∙ column_or c.args.self.now.columns.now c.empty.result c.args.position k (c.empty.ensures k)
