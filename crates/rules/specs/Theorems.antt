-- What is proved of whole runs.
use Rattle.std.specs.Prelude.{◌≡◌, List, []}
use Rattle.std.specs.List.{AllByRecursion}
use Rattle.recording.specs.declared.row.Row.{Row}
use Rattle.rules.specs.Acceptance.{Setting}
use Rattle.rules.specs.Runs.{Call, Answer, Run, LawfulCall, SameRenamed}

-- ---- The definitions allow one outcome of each run

abbrev pub RunsAreDetermined : Type 0
RunsAreDetermined =
    (s : Setting) (held : List Row) (calls : List Call) (answers answers' : List Answer) (left left' : List Row)
    → Run s held calls answers left
    → Run s held calls answers' left'
    → (answers ≡ answers') × (left ≡ left')

-- ---- A renaming changes no answer

abbrev pub RenamingChangesNoAnswer : Type 0
RenamingChangesNoAnswer =
    (s : Setting) (calls : List Call) (answers : List Answer) (left : List Row)
    → AllByRecursion LawfulCall calls
    → Run s [] calls answers left
    → SameRenamed s calls answers
