use Rattle.std.proofs.Common.{decimal, sym, ap, ◌∙◌, arith}
use Rattle.std.proofs.lemmas.Str.Pattern.{split_after, split_parts}
use Rattle.std.proofs.lemmas.Option.{MatchOption-at_some, MatchOption-at_none}
use Rattle.script.specs.Texts.{before}
use Rattle.script.proofs.Words.{none_read, number_no_space, after_number}
use Rattle.script.proofs.line.reading.first.Goals as goal

pub returns-in_err-word : goal.returns-in_err-word
returns-in_err-word c =
    none_read _ _ c.from_residual.ensures
    (λ n rest le e.
    MatchOption-at_none _ _ c.in_err-word.was
    (split_after 32 c.args.words.now (decimal n) rest c.split_once.result c.split_once.ensures.cases (omega arith)
    (sym e) (number_no_space n (omega arith))))

pub returns-in_err-n : goal.returns-in_err-n
returns-in_err-n c =
    none_read _ _ c.from_residual-in_err-n.ensures
    (λ n rest le e.
    let s =
    MatchOption-at_some _ _ _ c.in_ok-word.was
    (split_after 32 c.args.words.now (decimal n) rest c.split_once.result c.split_once.ensures.cases (omega arith)
    (sym e) (number_no_space n (omega arith)))
    in
    c.in_err-n.ensures n le (sym s.0))

pub returns : goal.returns
returns c =
    let s =
    MatchOption-at_some _ _ _ c.in_ok-word.was
    (split_parts 32 c.args.words.now c.split_once.result c.split_once.ensures.cases (omega arith))
    in
    let n = c.in_ok-n.ensures in
    let is = ap (λ w. before w c.in_ok-word.rest.now) n.1 ∙ sym s.0 in
    (n.0, is, λ m rest e small. after_number m c.in_ok-n.n c.args.largest small (omega arith) e (n.0, is))
