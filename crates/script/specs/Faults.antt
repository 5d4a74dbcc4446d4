-- The faults of lines as text.
use Rattle.std.specs.Prelude.{ℕ, List, ◌++◌, codes, decimal}
use Rattle.script.specs.declared.fault.AtLine.{AtLine}
use Rattle.script.specs.declared.fault.LineFault.{LineFault}
use Rattle.script.specs.declared.fault.LineFault.TheVariants.{NotACall, NotOpened, OpenedTwice, TooManyPlaces}

abbrev pub fault_text : LineFault → List ℕ
fault_text NotACall = codes "this is no call"
fault_text NotOpened = codes "this is no opening"
fault_text OpenedTwice = codes "a second opening"
fault_text TooManyPlaces = codes "too many places lent"

abbrev pub stop_text : AtLine → List ℕ
stop_text s = codes "line " ++ (decimal s.number ++ (codes ": " ++ fault_text s.fault))
