use Rattle.std.proofs.Common.{sym, ◌∙◌, true≢false}
use Rattle.rules.specs.Answers.{same, before, after, unordered}
use Rattle.examination.proofs.examination.Examination.order.Goals as goal

pub returns-then-i-j-clause-ordered : goal.returns-then-i-j-clause-ordered
returns-then-i-j-clause-ordered g c = same c.if-i-j.true

pub returns-then-is_before-clause-ordered : goal.returns-then-is_before-clause-ordered
returns-then-is_before-clause-ordered g c = before (c.is_before.ensures.0 c.if-is_before.true)

pub returns-then-is_before-2-clause-ordered : goal.returns-then-is_before-2-clause-ordered
returns-then-is_before-2-clause-ordered g c = after (c.is_before-else-is_before.ensures.0 c.if-is_before-2.true)

pub returns-else-is_before-2-clause-ordered : goal.returns-else-is_before-2-clause-ordered
returns-else-is_before-2-clause-ordered g c =
    unordered c.if-i-j.false (λ b. true≢false (sym (c.is_before.ensures.1 b) ∙ c.if-is_before.false))
    (λ b. true≢false (sym (c.is_before-else-is_before.ensures.1 b) ∙ c.if-is_before-2.false))
