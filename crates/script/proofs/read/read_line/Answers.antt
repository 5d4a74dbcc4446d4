use Rattle.std.proofs.Common.{IsUtf8, subst, rules}
use Rattle.script.proofs.Utf8.{line_utf8}
use Rattle.script.proofs.Words.{none_read}
use Rattle.script.proofs.read.read_line.Goals as goal

pub returns-in_err-text : goal.returns-in_err-text
returns-in_err-text c =
    let no_text : IsUtf8 c.args.bytes.now → ⊥ = search rules in
    none_read _ _ c.from_residual.ensures (λ l fits e. no_text (subst IsUtf8 e (line_utf8 l fits)))
