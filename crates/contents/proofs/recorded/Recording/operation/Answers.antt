use Rattle.std.proofs.Common.{◌<◌, vec_len, rules}
use Rattle.contents.proofs.Held.{made}
use Rattle.contents.proofs.recorded.Recording.operation.Goals as goal

pub returns : goal.returns
returns c =
    let held = c.args.self.now in
    let i = c.args.position in
    let inside : i < vec_len held.rows = search rules in
    rw c.ok.ensures.value
    (made c.try_from.result held.rows.items _ i c.in_ok-row.row.now inside (search rules) (held.lawful i inside) c.try_from.ensures)
