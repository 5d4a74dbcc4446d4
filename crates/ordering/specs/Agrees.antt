-- That the tables and the index agree with the rows.
use Rattle.std.specs.Prelude.{ℕ, ◌≤◌, Bool, length}
use Rattle.tables.specs.Matches.{Matches}
use Rattle.index.specs.Indexed.{Indexed}
use Rattle.ordering.specs.declared.past.Past.{Past}

-- tables and index agree with the held rows, at most 512, under these initial threads
pub record Agrees {D : Type 0} (initial : ℕ → Bool) (past : Past D) : Type 0 where
  pub matches : Matches initial past.rows.now past.tables.now
  pub indexed : Indexed past.rows.now past.index.now
  pub few : length past.rows.now ≤ 512
