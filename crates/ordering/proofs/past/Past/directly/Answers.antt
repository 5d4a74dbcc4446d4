use Rattle.std.proofs.Common.{◌≡◌, true, ◌&&◌, ◌||◌, ltb, ◌⊎◌, ◌↔◌, length, take, sym, ap, ◌∙◌, subst₂}
use Rattle.columns.specs.Positions.{has}
use Rattle.happens_before.specs.Trace.{row}
use Rattle.recording.specs.declared.action.Action.TheVariants.{Begin}
use Rattle.recording.specs.Rows.{row_of}
use Rattle.rules.specs.Options.{is_of}
use Rattle.index.specs.Given.{kindly}
use Rattle.index.specs.Indexed.{unlooped_at}
use Rattle.rules.specs.Columns.{pairs_in}
use Rattle.ordering.specs.Directly.{BegunAfter}
use Rattle.ordering.proofs.Collected.{only_begin, no_begin, with_begin}
use Rattle.ordering.proofs.past.Past.directly.Goals as goal

pub returns-in-Begin : goal.returns-in-Begin
returns-in-Begin g c =
    λ initial agrees ranged tasks small i.
    let held = c.args.self.now.rows.now in
    let o = c.args.operation.row in
    let D = g.D.Discipline.precedence c.args.self.now.discipline.now in
    let R = pairs_in c.args.self.now.columns.now in
    let a = c.action-action.result in
    let u = c.thread-thread.result.number in
    let t : u ≡ o.thread = c.thread-thread.ensures in
    let is : row_of u a ≡ o = ap (λ v. row_of v a) t ∙ c.action-action.ensures in
    let begins : o ≡ row_of o.thread (Begin c.in-Begin.task) =
    sym c.action-action.ensures ∙ ap (row_of o.thread) c.in-Begin.is
    in
    let second = has c.add_task_order.new.column i in
    with_begin D R held o i (is_of c.args.task) (has c.program_order-column.result i) second (has c.add_kinds.new.column i)
    (c.program_order-column.ensures held agrees.indexed i ∙ ap (λ v. ltb i (length held) && unlooped_at (take i held) v (row held i)) t)
    (c.add_task_order.ensures held agrees.indexed small i) tasks
    (c.add_kinds.ensures held agrees.indexed i ∙ ap (λ r. second || (ltb i (length held) && kindly (row held i) r)) is)
    (has c.add_begin.new.column i) (ap (λ r. r.code) begins)
    (subst₂
    (λ v p.
    (has c.add_begin.new.column i ≡ true)
    ↔ ((has c.add_kinds.new.column i ≡ true) ⊎ BegunAfter D R held v p i))
    t (sym (ap (λ r. r.item) begins)) (c.add_begin.ensures initial agrees ranged i))

pub returns-in_default : goal.returns-in_default
returns-in_default g c =
    λ initial agrees ranged tasks small i.
    let held = c.args.self.now.rows.now in
    let o = c.args.operation.row in
    let D = g.D.Discipline.precedence c.args.self.now.discipline.now in
    let R = pairs_in c.args.self.now.columns.now in
    let a = c.action-action.result in
    let u = c.thread-thread.result.number in
    let t : u ≡ o.thread = c.thread-thread.ensures in
    let is : row_of u a ≡ o = ap (λ v. row_of v a) t ∙ c.action-action.ensures in
    let second = has c.add_task_order.new.column i in
    no_begin D R held o i (is_of c.args.task) (has c.program_order-column.result i) second (has c.add_kinds.new.column i)
    (c.program_order-column.ensures held agrees.indexed i ∙ ap (λ v. ltb i (length held) && unlooped_at (take i held) v (row held i)) t)
    (c.add_task_order.ensures held agrees.indexed small i) tasks
    (c.add_kinds.ensures held agrees.indexed i ∙ ap (λ r. second || (ltb i (length held) && kindly (row held i) r)) is)
    (λ e. only_begin u a (ap (λ r. r.code) is ∙ e) c.in_default.not-Begin)
