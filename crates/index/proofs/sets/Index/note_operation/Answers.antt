use Rattle.std.proofs.Common.{length, ap, ◌∙◌, subst, arith}
use Rattle.recording.specs.Rows.{row_of}
use Rattle.index.specs.Indexed.{NotedKinds, NotedRest}
use Rattle.index.proofs.Kept.{indexed_push}
use Rattle.index.proofs.sets.Index.note_operation.Goals as goal

pub returns-clause-indexed : goal.returns-clause-indexed
returns-clause-indexed c held indexed at room looping tasks =
    let o = c.args.operation.row in
    let before = c.args.self.now in
    let middle = c.note_kinds.new.self in
    let after = c.note_rest.new.self in
    let t = c.thread-thread in
    let kinds : NotedKinds (row_of t.result.number c.action.result) (length held) before middle =
    rw (← at) c.note_kinds.ensures.noted
    in
    let rest : NotedRest t.result.number c.args.looping c.args.task (length held) middle after =
    rw (← at) c.note_rest.ensures.noted
    in
    indexed_push held o before middle after c.args.looping c.args.task indexed (omega arith)
    (subst (λ r. NotedKinds r (length held) before middle)
    (ap (λ u. row_of u c.action.result) t.ensures ∙ c.action.ensures)
    kinds)
    (subst (λ u. NotedRest u c.args.looping c.args.task (length held) middle after) t.ensures rest)
    looping tasks
