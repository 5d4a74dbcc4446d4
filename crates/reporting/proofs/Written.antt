-- A second list.
use Rattle.std.proofs.Common.{ℕ, List, length, Ok, Err, Result, Vec, ap, refl, arith}
use Rattle.std.specs.Result.{IsOk}
use Rattle.std.specs.declared.alloc.Global.{Global}
use Rattle.recording.specs.declared.row.Row.{Row}
use Rattle.happens_before.specs.Order.{Precedence}
use Rattle.rules.specs.declared.faults.TooShort.{TooShort}
use Rattle.rules.specs.declared.race.RaceRow.{RaceRow}
use Rattle.rules.proofs.Determined.{list_one}
use Rattle.reporting.specs.Lists.{Lists}

-- where so many places are lent as a list of the same operations needs
pub enough :
    (D : Precedence) (held : List Row) (places : ℕ) (short : TooShort) (again : Result (Vec RaceRow Global) TooShort)
    → Lists D held places (Err short)
    → Lists D held short.needed again
    → IsOk again
enough D held places short (Ok races) once all = refl
enough D held places short (Err more) once again =
    let same = ap length (list_one D held once.0 again.0 once.1 again.1) in
    absurd (omega (arith, same, once.2, again.2, again.3))
