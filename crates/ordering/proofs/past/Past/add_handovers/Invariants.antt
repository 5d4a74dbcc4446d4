use Rattle.std.proofs.Common.{◌≡◌, ℕ, Bool, true}
use Rattle.columns.specs.Positions.{has}
use Rattle.happens_before.specs.Theorems.{AllInRange}
use Rattle.rules.specs.Columns.{pairs_in}
use Rattle.ordering.specs.Agrees.{Agrees}
use Rattle.ordering.specs.Directly.{Ended}
use Rattle.ordering.proofs.Gathered.{SoFar}
use Rattle.ordering.proofs.past.Past.add_handovers.Given as goal

abbrev pub invariant-loop-position : goal.invariant-loop-position
invariant-loop-position g l =
    (initial : ℕ → Bool)
    → Agrees initial l.self
    → AllInRange l.self.rows.now
    → SoFar (λ k. has l.initial.column k ≡ true)
    (Ended (g.D.Discipline.precedence l.self.discipline.now) (pairs_in l.self.columns.now) l.self.rows.now l.thread.number l.later)
    (has l.column) l.position
