-- What an accepted operation makes of the records.
use Rattle.std.specs.Prelude.{◌≡◌, ℕ, true, cond, ◌||◌, List, map, Some, None, Option, ◌==◌, nat_lt, slice_set}
use Rattle.recording.specs.Codes.{threadinit, threadexit, fork, attach_q, loop_on_q, post, begin, end, acquire, release}
use Rattle.recording.specs.declared.row.Row.{Row}
use Rattle.tables.specs.declared.tables.Tables.{Tables}
use Rattle.tables.specs.declared.tasks.Posting.{Posting}
use Rattle.tables.specs.declared.tasks.TaskRecord.{TaskRecord}
use Rattle.tables.specs.declared.threads.Stage.TheVariants.{Created, Running, Finished}
use Rattle.tables.specs.declared.threads.ThreadRecord.{ThreadRecord}
use Rattle.rules.specs.Options.{is_of}
use Rattle.tables.specs.Records.{thread_at, task_at}

-- ---- Threads

-- the one thread whose record changes
abbrev pub changed : Row → ℕ
changed o = cond (o.code == fork) o.target o.thread

abbrev pub stepped : Row → ThreadRecord → ThreadRecord
stepped o r =
    record {
      stage =
          cond (o.code == threadexit) Finished
          (cond (o.code == threadinit) Running (cond (o.code == fork) Created r.stage));
      queue = o.code == attach_q || r.queue;
      looping = o.code == loop_on_q || r.looping;
      current = cond (o.code == begin) (Some o.item) (cond (o.code == end) None r.current);
    }

-- ---- Locks

-- the holder of a lock after thread t has finished
abbrev pub freed : ℕ → Option ℕ → Option ℕ
freed t holder = cond (is_of holder t) None holder

abbrev pub relocked : Row → List (Option ℕ) → List (Option ℕ)
relocked o holders =
    cond (o.code == acquire) (slice_set holders o.item (Some o.thread))
    (cond (o.code == release) (slice_set holders o.item None)
    (cond (o.code == threadexit) (map (freed o.thread) holders) holders))

-- ---- Tasks

-- positions are below 512
abbrev pub posted_at : ℕ → ℕ → Option Posting
posted_at position target = cond (nat_lt position 512) (Some (record { position = position; target = target })) None

abbrev pub retasked : Row → ℕ → List TaskRecord → List TaskRecord
retasked o position tasks =
    cond (o.code == post)
    (slice_set tasks o.item
    (record { posting = posted_at position o.target; begun = (task_at tasks o.item).begun }))
    (cond (o.code == begin)
    (slice_set tasks o.item (record { posting = (task_at tasks o.item).posting; begun = true }))
    tasks)

-- ---- All three

-- what an operation at a position makes of the tables, accepted or not
pub record TakenIn (o : Row) (position : ℕ) (before after : Tables) : Type 0 where
  pub threads : after.threads ≡ slice_set before.threads (changed o) (stepped o (thread_at before.threads (changed o)))
  pub holders : after.holders ≡ relocked o before.holders
  pub tasks : after.tasks ≡ retasked o position before.tasks
