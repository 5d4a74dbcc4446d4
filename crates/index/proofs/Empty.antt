-- Sets of empty columns.
use Rattle.std.proofs.Common.{◌≡◌, ℕ, ◌<◌, Bool, ◌&&◌, ltb, replicate, get_or, arith}
use Rattle.std.proofs.lemmas.Grind.{common_steps}
use Rattle.columns.specs.declared.column.Column.{Column}
use Rattle.columns.specs.Positions.{has, Holds, none}

pub empty_sets :
    {A : Type 0} (column : A → Column) (n : ℕ) (x d : A) → Holds (column x) none → (b : Bool) (k i : ℕ) → k < n
    → has (column (get_or (replicate n x) k d)) i ≡ (ltb i 0 && b)
empty_sets column n x d h b k i l = grind (arith, common_steps)
