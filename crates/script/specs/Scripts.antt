-- What each line of a script asks for, and the text that the script is answered with.
use Rattle.std.specs.Prelude.{◌≡◌, ℕ, suc, ◌-◌, ◌^◌, ◌<◌, ◌≤◌, Bool, true, false, List, [], ◌∷◌, ◌++◌, replicate, Some, None, codes, decimal, Option, ◌≢◌}
use Rattle.recording.specs.Disciplines.{discipline_number}
use Rattle.recording.specs.Faults.{record_number, record_byte}
use Rattle.recording.specs.Lawful.{lawful, fault_in}
use Rattle.recording.specs.declared.discipline.DisciplineKind.{DisciplineKind}
use Rattle.recording.specs.declared.faults.record.RecordFault.{RecordFault}
use Rattle.recording.specs.declared.row.Row.{Row}
use Rattle.dispatch.specs.Recorded.{admission_of, precedence_of}
use Rattle.rules.specs.Acceptance.{Setting}
use Rattle.rules.specs.Runs.{Call, add, cut, order, class, list, Answer, Step}
use Rattle.rules.specs.declared.race.RaceRow.{RaceRow}
use Rattle.rules.specs.Acceptance.{opened}
use Rattle.script.specs.Answers.{answer_lines}
use Rattle.script.specs.Faults.{stop_text}
use Rattle.script.specs.Lines.{line_text, LineFits}
use Rattle.script.specs.Texts.{Read, FirstLine, Lines}
use Rattle.script.specs.declared.fault.LineFault.{LineFault}
use Rattle.script.specs.declared.fault.LineFault.TheVariants.{NotACall, OpenedTwice, TooManyPlaces}
use Rattle.script.specs.declared.line.Line.{Line}
use Rattle.script.specs.declared.line.Line.TheVariants.{Open, Add, Cut, Order, Class, List as Races}

-- what a lent place holds before the call
abbrev pub lent_place : RaceRow
lent_place = record { earlier = 7; later = 7; class = 7 }

-- how many places the calls of a script are lent in all at most
abbrev pub most_lent : ℕ
most_lent = 1048576

-- what a line asks for: a call, or none since its row is no operation, or since it is no step of a script
pub data Asked : Type 0 where
  call : Call → Asked
  no_operation : RecordFault → Asked
  no_step : LineFault → Asked

-- what a line after the opening asks for, where so many places may still be lent, and how many after it
pub data Asks (left : ℕ) : Option Line → Asked → ℕ → Type 0 where
  adds : {r : Row} → lawful r ≡ true → Asks left (Some (Add r)) (call (add r)) left
  adds_not : {r : Row} {f : RecordFault} → fault_in r ≡ Some f → Asks left (Some (Add r)) (no_operation f) left
  cuts : {n : ℕ} → Asks left (Some (Cut n)) (call (cut n)) left
  orders : {i j : ℕ} → Asks left (Some (Order i j)) (call (order i j)) left
  classes : {i j : ℕ} → Asks left (Some (Class i j)) (call (class i j)) left
  lists : {n : ℕ} → n ≤ left → Asks left (Some (Races n)) (call (list (replicate n lent_place))) (left - n)
  lists_too_many : {n : ℕ} → left < n → Asks left (Some (Races n)) (no_step TooManyPlaces) left
  opens_again : {d m : ℕ} → Asks left (Some (Open d m)) (no_step OpenedTwice) left
  no_line : Asks left None (no_step NotACall) left

-- the same of the bytes of a line: of the line that has them, or of none
abbrev pub LineAsks : ℕ → List ℕ → Asked → ℕ → Type 0
LineAsks left bytes asked after = (l : Option Line) × Read LineFits line_text bytes l × Asks left l asked after

abbrev pub record_line : RecordFault → List ℕ
record_line f = codes "record " ++ (decimal (record_number f) ++ (codes " at " ++ (decimal (record_byte f) ++ codes "\n")))

abbrev pub stop_line : ℕ → LineFault → List ℕ
stop_line n f = stop_text (record { number = n; fault = f }) ++ codes "\n"

-- lines told in turn: the number of the first, how many places may still be lent, what is held, the lines, their text,
-- and whether every line was answered
pub data Told (s : Setting) : ℕ → ℕ → List Row → List (List ℕ) → List ℕ → Bool → Type 0 where
  ends : {n left : ℕ} {held : List Row} → Told s n left held [] [] true
  answers :
      {n left less : ℕ} {held after : List Row} {c : Call} {a : Answer} {line text : List ℕ} {lines : List (List ℕ)} {whole : Bool}
      → LineAsks left line (call c) less
      → Step s held c a after
      → Told s (suc n) less after lines text whole
      → Told s n left held (line ∷ lines) (answer_lines a ++ text) whole
  says_fault :
      {n left less : ℕ} {held : List Row} {f : RecordFault} {line text : List ℕ} {lines : List (List ℕ)} {whole : Bool}
      → LineAsks left line (no_operation f) less
      → Told s (suc n) less held lines text whole
      → Told s n left held (line ∷ lines) (record_line f ++ text) whole
  stops :
      {n left less : ℕ} {held : List Row} {f : LineFault} {line : List ℕ} {lines : List (List ℕ)}
      → LineAsks left line (no_step f) less
      → Told s n left held (line ∷ lines) (stop_line n f) false

-- a script, the text that it is answered with, and whether every line was answered
pub data Tells (script : List ℕ) : List ℕ → Bool → Type 0 where
  opens :
      (d : DisciplineKind) (m : ℕ) {rest text : List ℕ} {lines : List (List ℕ)} {whole : Bool}
      → FirstLine script (line_text (Open (discipline_number d) m)) rest
      → m < 2 ^ 64
      → Lines rest lines
      → Told (opened (admission_of d) (precedence_of d) m) 2 most_lent [] lines text whole
      → Tells script (codes "opened\n" ++ text) whole
  no_discipline :
      (d m : ℕ) {rest : List ℕ}
      → FirstLine script (line_text (Open d m)) rest
      → LineFits (Open d m)
      → 2 < d
      → Tells script (codes "file 7 at 3\n") false
  opens_nothing :
      {line rest : List ℕ}
      → FirstLine script line rest
      → ((d m : ℕ) → LineFits (Open d m) → line_text (Open d m) ≢ line)
      → Tells script (codes "line 1: this is no opening\n") false
