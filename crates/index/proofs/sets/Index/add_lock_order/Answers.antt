use Rattle.std.proofs.Common.{arith}
use Rattle.std.proofs.lemmas.Grind.{common_steps}
use Rattle.index.proofs.sets.Index.add_lock_order.Goals as goal

pub returns : goal.returns
returns c held indexed i =
    let added = c.join_except.ensures i in
    let releases = indexed.releases c.args.lock.number i c.args.lock.bounded in
    let own = c.own.ensures held indexed i in
    grind (arith, common_steps)
