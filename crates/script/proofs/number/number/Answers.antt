use Rattle.std.proofs.Common.{◌≡◌, ◌≤◌, length, get_or, ⊎_elim, arith, rules}
use Rattle.std.proofs.lemmas.Str.Pattern.{starts_char}
use Rattle.std.proofs.lemmas.Bool.{both_ways}
use Rattle.script.proofs.Words.{no_plus, no_zero, kept_decimal}
use Rattle.script.proofs.number.number.Goals as goal

pub returns-then-starts_with : goal.returns-then-starts_with
returns-then-starts_with c =
    let plus = starts_char 43 c.args.word.now c.starts_with.result c.starts_with.ensures.cases (omega arith) (omega arith) in
    λ n le e. no_plus n c.args.word.now (omega arith) e (plus.0 c.if-starts_with.true)

pub returns-then-word-gt1 : goal.returns-then-word-gt1
returns-then-word-gt1 c =
    let zero = starts_char 48 c.args.word.now c.starts_with-2.result c.starts_with-2.ensures.cases (omega arith) (omega arith) in
    λ n le e. no_zero n c.args.word.now (omega arith) e (zero.0 c.if-starts_with-2.true) c.if-word-gt1.true

pub returns : goal.returns
returns c =
    let plus = starts_char 43 c.args.word.now c.starts_with.result c.starts_with.ensures.cases (omega arith) (omega arith) in
    let zero = starts_char 48 c.args.word.now c.starts_with-2.result c.starts_with-2.ensures.cases (omega arith) (omega arith) in
    let alone : get_or c.args.word.now 0 0 ≡ 48 → length c.args.word.now ≤ 1 =
    λ z. ⊎_elim (λ w. w.1) (λ w. absurd (both_ways _ w (zero.1 z))) c.else-starts_with-2.either
    in
    kept_decimal c.args.word.now c.args.largest c.parse.result c.filter.result (omega arith) c.parse.ensures.value.0
    (λ p. both_ways _ c.if-starts_with.false (plus.1 p)) alone (search rules) (search rules)
