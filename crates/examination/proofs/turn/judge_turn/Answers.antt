use Rattle.std.proofs.Common.{◌≡◌, true, false, cond, Some, None, sym, ap, ◌∙◌}
use Rattle.recording.specs.Rows.{row_of}
use Rattle.recording.specs.Masks.{bit}
use Rattle.rules.specs.Acceptance.{opened, overtakes}
use Rattle.rules.specs.declared.faults.StateFault.TheVariants.{OutOfTurn}
use Rattle.examination.specs.Refusals.{discipline_refusal}
use Rattle.examination.proofs.turn.judge_turn.Goals as goal

pub returns-in-Begin : goal.returns-in-Begin
returns-in-Begin g c mask matches ranged =
    let o = c.args.operation.row in
    let past = c.args.past.now in
    let P = g.D.Discipline.precedence past.discipline.now in
    let s = opened (g.D.Discipline.admission past.discipline.now) P mask in
    let begins = sym c.action.ensures ∙ ap (row_of o.thread) c.in-Begin.is in
    let so : overtakes P past.rows.now o.thread c.in-Begin.task.number ≡ true =
    (λ x. overtakes P past.rows.now (sym c.thread.ensures x) c.in-Begin.task.number)
    ∙ (sym (c.is_overtaken.ensures (bit mask) matches ranged) ∙ c.if-is_overtaken.true)
    in
    ap (discipline_refusal s past.rows.now) begins ∙ ap (λ b. cond b (Some OutOfTurn) None) so

pub returns-in_default : goal.returns-in_default
returns-in_default g c mask matches ranged =
    let o = c.args.operation.row in
    let past = c.args.past.now in
    let P = g.D.Discipline.precedence past.discipline.now in
    let s = opened (g.D.Discipline.admission past.discipline.now) P mask in
    let begins = sym c.action.ensures ∙ ap (row_of o.thread) c.in-Begin.is in
    let so : overtakes P past.rows.now o.thread c.in-Begin.task.number ≡ false =
    (λ x. overtakes P past.rows.now (sym c.thread.ensures x) c.in-Begin.task.number)
    ∙ (sym (c.is_overtaken.ensures (bit mask) matches ranged) ∙ c.if-is_overtaken.false)
    in
    ap (discipline_refusal s past.rows.now) begins ∙ ap (λ b. cond b (Some OutOfTurn) None) so
