-- What the lines of a script are read as, and their text once the calls are made.
use Rattle.std.specs.Prelude.{◌≡◌, ℕ, suc, Bool, true, false, not, ◌⊎◌, List, [], ◌∷◌, ◌++◌, map, is_some, Some, None, Ok, Err, vec_items, string_bytes, codes, Option, Result}
use Rattle.recording.specs.declared.faults.record.RecordFault.{RecordFault}
use Rattle.recording.specs.declared.row.Row.{Row}
use Rattle.rules.specs.Acceptance.{Setting}
use Rattle.rules.specs.Runs.{Call, Answer, Run}
use Rattle.runs.specs.Calls.{call_of}
use Rattle.script.specs.Answers.{answer_lines}
use Rattle.script.specs.Faults.{stop_text}
use Rattle.script.specs.Scripts.{most_lent, call, no_operation, no_step, Asks, LineAsks, record_line}
use Rattle.script.specs.Texts.{Lines}
use Rattle.script.specs.declared.fault.AtLine.{AtLine}
use Rattle.script.specs.declared.fault.LineFault.{LineFault}
use Rattle.script.specs.declared.line.Line.{Line}
use Rattle.script.specs.declared.read.Script.{Script}
use Rattle.script.specs.declared.tell.Told.{Told}
use Rattle.script.specs.declared.tell.Told.TheVariants.{Whole, Stopped}

-- what a line asks for, where it is a step: a call, or nothing, for its row has this fault
abbrev pub Step : Type 0
Step = Result (Unit {0}) RecordFault

-- lines up to the first that is no step: the number of the first, how many places may still be lent, the lines, their steps,
-- their calls, and the bad line
pub data Reads : ℕ → ℕ → List (List ℕ) → List Step → List Call → Option AtLine → Type 0 where
  ends : {n left : ℕ} → Reads n left [] [] [] None
  called :
      {n left less : ℕ} {c : Call} {line : List ℕ} {lines : List (List ℕ)} {steps : List Step} {cs : List Call} {stop : Option AtLine}
      → LineAsks left line (call c) less
      → Reads (suc n) less lines steps cs stop
      → Reads n left (line ∷ lines) (Ok tt ∷ steps) (c ∷ cs) stop
  not_called :
      {n left less : ℕ} {f : RecordFault} {line : List ℕ} {lines : List (List ℕ)} {steps : List Step} {cs : List Call} {stop : Option AtLine}
      → LineAsks left line (no_operation f) less
      → Reads (suc n) less lines steps cs stop
      → Reads n left (line ∷ lines) (Err f ∷ steps) cs stop
  stops :
      {n left less : ℕ} {f : LineFault} {line : List ℕ} {lines : List (List ℕ)}
      → LineAsks left line (no_step f) less
      → Reads n left (line ∷ lines) [] [] (Some (record { number = n; fault = f }))

-- the same of the text after the opening
abbrev pub ReadAs : List ℕ → List Step → List Call → Option AtLine → Type 0
ReadAs text steps calls stop = (lines : List (List ℕ)) × Lines text lines × Reads 2 most_lent lines steps calls stop

abbrev pub steps_of : Script → List Step
steps_of s = vec_items s.steps

abbrev pub calls_of : Script → List Call
calls_of s = map call_of (vec_items s.calls)

-- one step more, and these calls
abbrev pub Grown : Script → Step → List Call → Script → Type 0
Grown s step calls after =
    (steps_of after ≡ steps_of s ++ step ∷ []) × (calls_of after ≡ calls_of s ++ calls) × (after.stop ≡ s.stop)

-- a line taken in
abbrev pub Takes : Script → Option Line → Script → Type 0
Takes s l after =
    ((c : Call) × Asks s.left l (call c) after.left × Grown s (Ok tt) (c ∷ []) after)
    ⊎ ((f : RecordFault) × Asks s.left l (no_operation f) after.left × Grown s (Err f) [] after)

-- the same; or the fault for which it is not, and the same script
abbrev pub TakesOr : Script → Option Line → Result (Unit {0}) LineFault → Script → Type 0
TakesOr s l (Ok done) after = Takes s l after
TakesOr s l (Err f) after = Asks s.left l (no_step f) after.left × (after ≡ s)

-- the lines of each step, where each call has the next answer
abbrev pub step_lines : List Step → List Answer → List ℕ
step_lines [] answers = []
step_lines (Ok done ∷ steps) [] = step_lines steps []
step_lines (Ok done ∷ steps) (a ∷ answers) = answer_lines a ++ step_lines steps answers
step_lines (Err f ∷ steps) answers = record_line f ++ step_lines steps answers

abbrev pub stop_lines : Option AtLine → List ℕ
stop_lines None = []
stop_lines (Some at) = stop_text at ++ codes "\n"

-- the text once the calls are made, and whether every line was answered
abbrev pub Answered : Setting → Script → List ℕ → Bool → Type 0
Answered s script text whole =
    (answers : List Answer)
    × (after : List Row)
    × Run s [] (calls_of script) answers after
    × (text ≡ codes "opened\n" ++ (step_lines (steps_of script) answers ++ stop_lines script.stop))
    × (whole ≡ not (is_some script.stop))

abbrev pub told_text : Told → List ℕ
told_text (Whole text) = string_bytes text
told_text (Stopped text) = string_bytes text

-- whether every line was answered
abbrev pub is_whole : Told → Bool
is_whole (Whole text) = true
is_whole (Stopped text) = false
