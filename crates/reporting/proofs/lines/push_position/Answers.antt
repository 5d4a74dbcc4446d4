use Rattle.std.proofs.Common.{append_assoc, rules}
use Rattle.std.proofs.lemmas.Fmt.{decimal_digit, decimal_step}
use Rattle.reporting.proofs.lines.push_position.Goals as goal

pub returns : goal.returns
returns c = search (rules, decimal_digit, decimal_step, append_assoc)
