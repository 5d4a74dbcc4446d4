-- The races at the places of a list, and answers that are always Ok.
use Rattle.std.proofs.Common.{ℕ, zero, suc, ◌<◌, List, [], ◌∷◌, length, get_or, Ok, Err, Result, MatchResult, refl, arith}
use Rattle.std.specs.Result.{IsOk}
use Rattle.rules.specs.Answers.{In, here, there}
use Rattle.rules.specs.declared.race.RaceRow.{RaceRow}

pub in_at : (xs : List RaceRow) (i : ℕ) (d : RaceRow) → i < length xs → In (get_or xs i d) xs
in_at [] i d h = absurd (omega arith)
in_at (x ∷ xs) zero d h = here
in_at (x ∷ xs) (suc i) d h = there (in_at xs i d (omega arith))

pub always_ok : {A E : Type 0} (r : Result A E) (P : A → Type 0) (X : Type 0) → MatchResult r P (λ e. X → ⊥) → X → IsOk r
always_ok (Ok y) P X h x = refl
always_ok (Err e) P X h x = absurd (h x)
