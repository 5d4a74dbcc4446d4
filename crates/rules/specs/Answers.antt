-- What the calls answer about what is held.
use Rattle.std.specs.Prelude.{◌≡◌, ℕ, ◌<◌, min, max, Bool, true, ◌⊎◌, ◌↔◌, List, [], ◌∷◌, ◌≢◌}
use Rattle.recording.specs.declared.row.Row.{Row}
use Rattle.columns.specs.Positions.{tally}
use Rattle.happens_before.specs.Order.{Precedence, Before as IsBefore}
use Rattle.happens_before.specs.Race.{Race as IsRace, Class}
use Rattle.rules.specs.declared.order.Order.{Order}
use Rattle.rules.specs.declared.order.Order.TheVariants.{Same, Before, After, Unordered}
use Rattle.rules.specs.declared.race.RaceRow.{RaceRow}

-- c of the numbers below n have the property
pub record Count (n : ℕ) (P : ℕ → Type 0) (c : ℕ) : Type 0 where
  pub test : ℕ → Bool
  pub tells : (i : ℕ) → i < n → (test i ≡ true) ↔ P i
  pub counted : c ≡ tally test n

-- how i stands to j
pub data Ordered (D : Precedence) (held : List Row) (i j : ℕ) : Order → Type 0 where
  same : i ≡ j → Ordered D held i j Same
  before : IsBefore D held i j → Ordered D held i j Before
  after : IsBefore D held j i → Ordered D held i j After
  unordered :
      (i ≢ j) → (IsBefore D held i j → ⊥) → (IsBefore D held j i → ⊥) → Ordered D held i j Unordered

-- the class of two positions, in either order, by its number; 0 for no race
pub data Classed (D : Precedence) (held : List Row) (i j : ℕ) : ℕ → Type 0 where
  no_race : (IsRace D held (min i j) (max i j) → ⊥) → Classed D held i j 0
  race : {c : ℕ} → IsRace D held (min i j) (max i j) → Class D held (min i j) (max i j) c → Classed D held i j c

-- ---- The race list: every race just once, by rising later position, then rising earlier

pub data In (r : RaceRow) : List RaceRow → Type 0 where
  here : {rows : List RaceRow} → In r (r ∷ rows)
  there : {q : RaceRow} {rows : List RaceRow} → In r rows → In r (q ∷ rows)

abbrev pub Rises : RaceRow → RaceRow → Type 0
Rises q r = (q.later < r.later) ⊎ ((q.later ≡ r.later) × (q.earlier < r.earlier))

abbrev pub Rising : List RaceRow → Type 0
Rising [] = Unit {0}
Rising (q ∷ rows) = ((r : RaceRow) → In r rows → Rises q r) × Rising rows

pub record RaceList (D : Precedence) (held : List Row) (rows : List RaceRow) : Type 0 where
  pub rising : Rising rows
  pub races : (r : RaceRow) → In r rows → IsRace D held r.earlier r.later × Class D held r.earlier r.later r.class
  pub all : (i j : ℕ) → IsRace D held i j → (c : ℕ) × In (record { earlier = i; later = j; class = c }) rows
