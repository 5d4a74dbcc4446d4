-- The lines of a script that was read and run, as they are told.
use Rattle.std.proofs.Common.{◌≡◌, ℕ, Bool, not, List, ◌∷◌, ◌++◌, is_some, codes, Option, sym, ap, ◌∙◌, subst, subst₂, append_assoc, arith}
use Rattle.std.proofs.lemmas.Fmt.{decimal_digit}
use Rattle.recording.specs.Disciplines.{discipline_number}
use Rattle.recording.specs.declared.discipline.DisciplineKind.{DisciplineKind}
use Rattle.recording.specs.declared.row.Row.{Row}
use Rattle.files.specs.Texts.{fault_text}
use Rattle.files.specs.declared.faults.file.FileFault.TheVariants.{Discipline}
use Rattle.files.specs.declared.faults.read.ReadFault.TheVariants.{File}
use Rattle.dispatch.specs.Recorded.{admission_of, precedence_of}
use Rattle.rules.specs.Acceptance.{Setting}
use Rattle.rules.specs.Runs.{Call, Answer, Run, done, next}
use Rattle.rules.specs.Acceptance.{opened}
use Rattle.script.specs.Answers.{answer_lines}
use Rattle.script.specs.Faults.{stop_text}
use Rattle.script.specs.Lines.{line_text, LineFits}
use Rattle.script.specs.Readings as reading
use Rattle.script.specs.Readings.{Step, Reads, ReadAs, steps_of, calls_of, step_lines, stop_lines, Answered}
use Rattle.script.specs.Scripts.{Told, record_line, ends, answers, says_fault, stops, Tells, opens}
use Rattle.script.specs.Texts.{FirstLine}
use Rattle.script.specs.declared.fault.AtLine.{AtLine}
use Rattle.script.specs.declared.fault.LineFault.TheVariants.{NotOpened}
use Rattle.script.specs.declared.line.Line.TheVariants.{Open}
use Rattle.script.specs.declared.read.Script.{Script}

pub told :
    {s : Setting} {n left : ℕ} {held after : List Row} {lines : List (List ℕ)} {steps : List Step} {calls : List Call}
    {said : List Answer} {stop : Option AtLine}
    → Reads n left lines steps calls stop
    → Run s held calls said after
    → Told s n left held lines (step_lines steps said ++ stop_lines stop) (not (is_some stop))
told reading.ends done = ends
told {s} {n} {left} {held} {stop = stop} (reading.called {line = line} {lines = lines} {steps = steps} asks reads)
    (next {a = a} {answers = later} step run) =
    subst (λ text. Told s n left held (line ∷ lines) text (not (is_some stop)))
    (sym (append_assoc (answer_lines a) (step_lines steps later) (stop_lines stop))) (answers asks step (told reads run))
told {s} {n} {left} {held} {said = said} {stop = stop}
    (reading.not_called {f = f} {line = line} {lines = lines} {steps = steps} asks reads) run =
    subst (λ text. Told s n left held (line ∷ lines) text (not (is_some stop)))
    (sym (append_assoc (record_line f) (step_lines steps said) (stop_lines stop))) (says_fault asks (told reads run))
told (reading.stops asks) done = stops asks

pub run_told :
    (bytes line rest : List ℕ) (d : DisciplineKind) (number m : ℕ) (script : Script) (text : List ℕ) (whole : Bool)
    → FirstLine bytes line rest
    → LineFits (Open number m) × (line_text (Open number m) ≡ line)
    → discipline_number d ≡ number
    → ReadAs rest (steps_of script) (calls_of script) script.stop
    → Answered (opened (admission_of d) (precedence_of d) m) script text whole
    → Tells bytes text whole
run_told bytes line rest d number m script text whole first opening e read ran =
    let is : line ≡ line_text (Open (discipline_number d) m) = sym (ap (λ n. line_text (Open n m)) e ∙ opening.1) in
    subst₂ (λ t w. Tells bytes t w) (sym ran.3) (sym ran.4)
    (opens d m (subst (λ l. FirstLine bytes l rest) is first) opening.0.1 read.1 (told read.2 ran.2))

pub no_opening_said : stop_text (record { number = 1; fault = NotOpened }) ++ codes "\n" ≡ codes "line 1: this is no opening\n"
no_opening_said =
    let one = decimal_digit 1 (omega arith) in
    λ k. (codes "line " ++ (one k ++ codes ": this is no opening")) ++ codes "\n"

pub no_discipline_said : fault_text (File Discipline) ++ codes "\n" ≡ codes "file 7 at 3\n"
no_discipline_said =
    let seven = decimal_digit 7 (omega arith) in
    let three = decimal_digit 3 (omega arith) in
    λ k. (codes "file " ++ (seven k ++ (codes " at " ++ three k))) ++ codes "\n"
