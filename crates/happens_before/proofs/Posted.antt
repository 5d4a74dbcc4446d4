-- Posts are held, and whether tasks are posted before they begin can be computed.
use Rattle.std.proofs.Common.{◌≡◌, ℕ, ◌<◌, ◌≤◌, List, length, ⊎_elim, arith}
use Rattle.std.proofs.lemmas.Bool.{cases_lt}
use Rattle.std.proofs.lemmas.Grind.{common_steps}
use Rattle.recording.specs.Codes.{begin}
use Rattle.recording.specs.declared.row.Row.{Row}
use Rattle.happens_before.specs.Trace.{code, item, Posts}
use Rattle.happens_before.specs.Theorems.{PostedFirst}
use Rattle.happens_before.proofs.Rules.{posts}
use Rattle.happens_before.proofs.Tested.{Tested, equal, at_most, like, three, some_below, none_below}

pub post_held : (trace : List Row) (b p : ℕ) → Posts trace b p → b < length trace
post_held trace b p w = grind (arith, common_steps)

-- b posts, too late, the task that begins at j
abbrev Late : List Row → ℕ → ℕ → Type 0
Late trace j b = (code trace j ≡ begin) × Posts trace b (item trace j) × (j ≤ b)

unfoldable pub test_posted_first : (trace : List Row) → Tested (PostedFirst trace)
test_posted_first trace =
    like
    (λ h b j l c p.
    ⊎_elim (λ u. u) (λ u. absurd (h j l (b, post_held trace b _ p, (c, p, u)))) (cases_lt b j))
    (λ first j l (b, u, (c, p, late)). let e : b < j = first b j l c p in let z : ⊥ = omega arith in z)
    (none_below (length trace) (λ j. (b : ℕ) × (b < length trace) × Late trace j b)
    (λ j.
    some_below (length trace) (Late trace j)
    (λ b. three (equal _ _) (λ _. posts trace b (item trace j)) (λ _. at_most j b))))
