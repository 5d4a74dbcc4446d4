-- What a script has once a line is taken in.
use Rattle.std.proofs.Common.{◌≡◌, ℕ, [], ◌∷◌, Ok, Option, sym, subst, inl}
use Rattle.rules.specs.Runs.{Call}
use Rattle.script.specs.Readings.{Grown, Takes}
use Rattle.script.specs.Scripts.{Asks, call, cuts, orders, classes, lists, lists_too_many, opens_again, no_line}
use Rattle.script.specs.declared.line.Line.{Line}
use Rattle.script.specs.declared.read.Script.{Script}

-- a line that asks for a call, once the call is taken in
pub call_taken :
    (s after : Script) (l : Option Line) (c : Call) (left : ℕ)
    → Asks s.left l (call c) left
    → Grown s (Ok tt) (c ∷ []) after × (after.left ≡ left)
    → Takes s l after
call_taken s after l c left asks t = inl (c, subst (λ n. Asks s.left l (call c) n) (sym t.1) asks, t.0)

-- what each line asks for
pub ruleset taken = (call_taken, cuts, orders, classes, lists, lists_too_many, opens_again, no_line)
