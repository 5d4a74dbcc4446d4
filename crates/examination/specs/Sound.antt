-- What an examination stores agrees with what it holds, whatever its discipline.
use Rattle.std.specs.Prelude.{◌≡◌, ℕ, ◌≤◌, List, length}
use Rattle.recording.specs.declared.row.Row.{Row}
use Rattle.columns.specs.declared.column.Column.{Column}
use Rattle.races.specs.declared.nearest.NearestPosts.{NearestPosts}
use Rattle.recording.specs.Masks.{bit}
use Rattle.rules.specs.Fair.{FairTables}
use Rattle.examination.specs.declared.state.State.{State}
use Rattle.examination.specs.Follows.{Follows}

pub record Sound (mask : ℕ) (held : List Row) (columns : List Column) (nearests : List NearestPosts) (state : State) : Type 0 where
  pub few : length held ≤ 512
  pub fair : FairTables (bit mask) held
  pub follows : Follows (bit mask) held state
  pub column_each : length columns ≡ length held
  pub nearest_each : length nearests ≡ length held
