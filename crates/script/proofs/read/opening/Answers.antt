use Rattle.std.proofs.Common.{Some, ap, ◌∙◌}
use Rattle.std.proofs.lemmas.Option.{MatchOption-at_some, MatchOption-at_none}
use Rattle.script.specs.declared.line.Line.TheVariants.{Open}
use Rattle.script.proofs.Words.{none_read}
use Rattle.script.proofs.read.opening.Goals as goal

pub returns-in_err-number : goal.returns-in_err-number
returns-in_err-number c =
    let (line, first, reads) = c.next_line.ensures in
    let none = none_read _ _ c.from_residual.ensures (λ d m. MatchOption-at_none _ _ c.in_err-number.was reads (Open d m)) in
    (line, first, none)

pub returns-in-Open : goal.returns-in-Open
returns-in-Open c =
    let (line, first, reads) = c.next_line.ensures in
    (line, first, MatchOption-at_some _ _ _ (c.in_ok-number.was ∙ ap Some c.in-Open.is) reads)
