-- What a caller sees of an examination.
use Rattle.std.specs.Prelude.{◌≡◌, ℕ, ◌≤◌, Bool, List, length}
use Rattle.recording.specs.Masks.{bit}
use Rattle.recording.specs.declared.marks.Marks.{Marks}
use Rattle.recording.specs.declared.row.Row.{Row}
use Rattle.rules.specs.Acceptance.{Setting, opened}
use Rattle.rules.specs.Fair.{FairTables}

-- the discipline and the mask that it was opened with, and the held operations
pub record Holding (D : Type 0) : Type 0 where
  pub discipline : D
  pub mask : ℕ
  pub rows : List Row

abbrev pub held : {D : Type 0} → Holding D → List Row
held e = e.rows

-- at most 512 are held, each lawful and refused on those before it by none of the tests that ask no discipline
pub record FairlyHeld {D : Type 0} (e : Holding D) : Type 0 where
  pub few : length (held e) ≤ 512
  pub fair : FairTables (bit e.mask) (held e)

-- what the examination was opened with, by the relations of its discipline
abbrev pub setting_of : {D : Type 0} → (D → Marks → Bool) → (D → Marks → Marks → Bool) → Holding D → Setting
setting_of admission precedence e = opened (admission e.discipline) (precedence e.discipline) e.mask

-- the discipline and the mask are as they were
abbrev pub SameSetting : {D : Type 0} → Holding D → Holding D → Type 0
SameSetting e f = (f.discipline ≡ e.discipline) × (f.mask ≡ e.mask)
