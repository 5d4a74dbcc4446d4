-- The records of threads, locks and tasks, and tests of them.
use Rattle.std.specs.Prelude.{ℕ, Bool, true, false, cond, not, ◌&&◌, List, Some, None, Option, ◌==◌, slice_index_or}
use Rattle.tables.specs.declared.tasks.Posting.{Posting}
use Rattle.tables.specs.declared.tasks.TaskRecord.{TaskRecord}
use Rattle.tables.specs.declared.threads.Stage.{Stage}
use Rattle.tables.specs.declared.threads.Stage.TheVariants.{Unknown, Created, Running, Finished}
use Rattle.tables.specs.declared.threads.ThreadRecord.{ThreadRecord}

-- ---- The record at each place of a table

-- a thread of which nothing is held
abbrev pub unstarted : Bool → ThreadRecord
unstarted initial = record { stage = cond initial Created Unknown; queue = false; looping = false; current = None }

abbrev pub thread_at : List ThreadRecord → ℕ → ThreadRecord
thread_at threads t = slice_index_or threads t (unstarted false)

abbrev pub holder_at : List (Option ℕ) → ℕ → Option ℕ
holder_at holders k = slice_index_or holders k None

abbrev pub task_at : List TaskRecord → ℕ → TaskRecord
task_at tasks p = slice_index_or tasks p (record { posting = None; begun = false })

-- ---- Stages

-- the stage of a thread, by what is held
abbrev pub stage_of : Bool → Bool → Bool → Stage
stage_of finished started known = cond finished Finished (cond started Running (cond known Created Unknown))

abbrev pub is_unknown : Stage → Bool
is_unknown Unknown = true
is_unknown Created = false
is_unknown Running = false
is_unknown Finished = false

abbrev pub is_created : Stage → Bool
is_created Unknown = false
is_created Created = true
is_created Running = false
is_created Finished = false

abbrev pub is_running : Stage → Bool
is_running Unknown = false
is_running Created = false
is_running Running = true
is_running Finished = false

abbrev pub is_finished : Stage → Bool
is_finished Unknown = false
is_finished Created = false
is_finished Running = false
is_finished Finished = true

-- ---- What a record may lack

-- it is another number than n
abbrev pub is_other : Option ℕ → ℕ → Bool
is_other None n = false
is_other (Some m) n = not (m == n)

-- the post is to thread t
abbrev pub posted_to : Option Posting → ℕ → Bool
posted_to None t = false
posted_to (Some q) t = q.target == t

-- the post stands at position b
abbrev pub stands_at : Option Posting → ℕ → Bool
stands_at None b = false
stands_at (Some q) b = q.position == b

-- the task waits at thread t: posted there and not begun
abbrev pub waits_at : TaskRecord → ℕ → Bool
waits_at r t = posted_to r.posting t && not r.begun
