use Rattle.std.proofs.Common.{refl, arith, rules}
use Rattle.std.proofs.lemmas.Bool.{false≢true}
use Rattle.columns.proofs.Meets.{met, apart}
use Rattle.columns.proofs.column.Column.meets.Goals as goal

pub returns-then-word-other-ne0 : goal.returns-then-word-other-ne0
returns-then-word-other-ne0 c =
    ((λ _. met c.args.self.now c.args.other.now c.loop-w.w (search rules) (search rules) (search rules)), (λ _. refl))

pub returns : goal.returns
returns c = ((λ e. absurd (false≢true e)), (λ m. absurd (apart c.args.self.now c.args.other.now (λ w h. c.loop-w.invariant w (omega arith)) m)))
