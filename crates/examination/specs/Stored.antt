-- What is stored, lent to the crates below: it is of the held operations, and exact for them.
use Rattle.std.specs.Prelude.{◌≡◌, ◌≤◌, length}
use Rattle.recording.specs.Masks.{bit}
use Rattle.happens_before.specs.Order.{Precedence}
use Rattle.happens_before.specs.Theorems.{PostedFirst}
use Rattle.rules.specs.Columns.{Right}
use Rattle.rules.specs.Fair.{FairTables}
use Rattle.ordering.specs.Agrees.{Agrees}
use Rattle.ordering.specs.declared.past.Past.{Past}
use Rattle.races.specs.Chains.{NearestRight}
use Rattle.races.specs.declared.held.Held.{Held}
use Rattle.examination.specs.Holding.{Holding, held, FairlyHeld}

-- by which an added operation is judged and placed
pub record IsPast {D : Type 0} (precedence : D → Precedence) (e : Holding D) (past : Past D) : Type 0 where
  pub discipline_is : past.discipline.now ≡ e.discipline
  pub rows_are : past.rows.now ≡ held e
  pub fair : FairTables (bit e.mask) past.rows.now
  pub agrees : Agrees (bit e.mask) past
  pub column_each : length past.columns.now ≡ length past.rows.now
  pub right : Right (precedence past.discipline.now) past.rows.now past.columns.now

-- by which races are told
pub record IsHeld {D : Type 0} (precedence : D → Precedence) (e : Holding D) (lent : Held) : Type 0 where
  pub rows_are : lent.rows.now ≡ held e
  pub fair : FairlyHeld e
  pub few : length lent.rows.now ≤ 512
  pub posted : PostedFirst lent.rows.now
  pub column_each : length lent.columns.now ≡ length lent.rows.now
  pub nearest_each : length lent.nearests.now ≡ length lent.rows.now
  pub right : Right (precedence e.discipline) lent.rows.now lent.columns.now
  pub near : NearestRight lent.rows.now lent.nearests.now
