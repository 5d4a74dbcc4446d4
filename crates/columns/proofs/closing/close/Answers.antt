use Rattle.std.proofs.Common.{sym, ap, ◌∙◌, arith}
use Rattle.columns.specs.Positions.{has}
use Rattle.columns.proofs.Sweeps.{all_passed, taken_in, taken_in_part}
use Rattle.columns.proofs.closing.close.Goals as goal

pub loop-k-preserved-then-contains : goal.loop-k-preserved-then-contains
loop-k-preserved-then-contains c =
    let last = c.in-Some.ensures in (
      omega arith,
      taken_in c.args.columns.now (has c.args.own.now) (has c.loop-k.column) c.loop-k.end c.in-Some.k last
          c.join.new.self (sym c.if-contains.ensures) c.join.ensures
          ∙ c.loop-k.invariant.1,
    )

pub loop-k-preserved : goal.loop-k-preserved
loop-k-preserved c =
    let last = c.in-Some.ensures in (
      omega arith,
      taken_in_part c.args.columns.now (has c.args.own.now) (has c.loop-k.column) c.loop-k.end c.in-Some.k last
          c.join_except.new.self (sym c.if-contains.ensures) c.join_except.ensures
          ∙ c.loop-k.invariant.1,
    )

pub returns : goal.returns
returns c k =
    ap (λ p. p k)
    (all_passed c.args.columns.now (has c.args.own.now) (has c.loop-k.column) 0 c.loop-k.end (omega arith) c.in_default.ensures
    ∙ c.loop-k.invariant.1)
