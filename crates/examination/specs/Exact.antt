-- That what an examination stores is exact, and has room for all that it may hold.
use Rattle.std.specs.Prelude.{ℕ, ◌≤◌, List}
use Rattle.recording.specs.declared.row.Row.{Row}
use Rattle.columns.specs.declared.column.Column.{Column}
use Rattle.races.specs.declared.nearest.NearestPosts.{NearestPosts}
use Rattle.happens_before.specs.Order.{Precedence}
use Rattle.rules.specs.Columns.{Right}
use Rattle.races.specs.Chains.{NearestRight}
use Rattle.examination.specs.declared.state.State.{State}
use Rattle.examination.specs.Sound.{Sound}

-- the stored columns are those of the discipline's relation, and the stored nearest posts are right
pub record Exact (D : Precedence) (mask : ℕ) (held : List Row) (columns : List Column) (nearests : List NearestPosts) (state : State) : Type 0 where
  pub sound : Sound mask held columns nearests state
  pub right : Right D held columns
  pub near : NearestRight held nearests

-- the capacities serve for every operation that may be held
pub record Room (rows columns nearests : ℕ) : Type 0 where
  pub row_room : 512 ≤ rows
  pub column_room : 512 ≤ columns
  pub nearest_room : 512 ≤ nearests
