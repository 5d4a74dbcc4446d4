-- The state that follows from held operations.
use Rattle.std.specs.Prelude.{ℕ, Bool, List}
use Rattle.recording.specs.declared.row.Row.{Row}
use Rattle.tables.specs.Matches.{Matches}
use Rattle.index.specs.Indexed.{Indexed}
use Rattle.examination.specs.declared.state.State.{State}

pub record Follows (initial : ℕ → Bool) (held : List Row) (state : State) : Type 0 where
  pub matches : Matches initial held state.tables
  pub indexed : Indexed held state.index
