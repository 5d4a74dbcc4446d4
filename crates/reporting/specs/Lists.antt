-- The race list where so many places are lent for it.
use Rattle.std.specs.Prelude.{◌≡◌, ℕ, ◌<◌, List, length, Ok, Err, vec_items, Result, Vec}
use Rattle.std.specs.declared.alloc.Global.{Global}
use Rattle.recording.specs.declared.row.Row.{Row}
use Rattle.happens_before.specs.Order.{Precedence}
use Rattle.rules.specs.Answers.{RaceList}
use Rattle.rules.specs.declared.faults.TooShort.{TooShort}
use Rattle.rules.specs.declared.race.RaceRow.{RaceRow}

-- it, or how many places it needs
abbrev pub Lists : Precedence → List Row → ℕ → Result (Vec RaceRow Global) TooShort → Type 0
Lists D held places (Ok races) = RaceList D held (vec_items races)
Lists D held places (Err short) =
    (races : List RaceRow) × RaceList D held races × (short.needed ≡ length races) × (places < short.needed)
