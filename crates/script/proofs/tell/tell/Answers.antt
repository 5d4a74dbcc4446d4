use Rattle.std.proofs.Common.{sym, ◌∙◌, subst}
use Rattle.std.proofs.lemmas.Result.{IfOk-weaker}
use Rattle.script.specs.Readings.{told_text, is_whole}
use Rattle.script.specs.Scripts.{no_discipline, opens_nothing}
use Rattle.script.specs.Texts.{FirstLine}
use Rattle.script.proofs.ToldLines.{run_told, no_opening_said, no_discipline_said}
use Rattle.script.proofs.tell.tell.Goals as goal

pub returns-in_default : goal.returns-in_default
returns-in_default c =
    let (line, first, opens) = c.in_default.ensures in
    rw (c.in_ok-format.ensures.ok ∙ no_opening_said) (opens_nothing first opens)

pub returns-in_ok-read-in-Ok : goal.returns-in_ok-read-in-Ok
returns-in_ok-read-in-Ok c =
    let (line, first, opens) = c.in-Some.ensures in
    IfOk-weaker c.answered.result _ _
    (λ told ran.
    run_told c.args.script.now line c.opening.new.lines.rest.now c.in-Ok.kind c.in-Some.number c.in-Some.mask
    c.in_ok-read-in-Ok.field-0 (told_text told) (is_whole told) first opens c.in-Ok.ensures
    c.in_ok-read-in-Ok.ensures ran)
    c.answered.ensures

pub returns-in_ok-format-in-Err : goal.returns-in_ok-format-in-Err
returns-in_ok-format-in-Err c =
    let (line, first, opens) = c.in-Some.ensures in
    rw (c.in_ok-format-in-Err.ensures.ok ∙ no_discipline_said)
    (no_discipline c.in-Some.number c.in-Some.mask
    (subst (λ l. FirstLine c.args.script.now l c.opening.new.lines.rest.now) (sym opens.1) first)
    opens.0 c.in-Err.ensures)
