-- Tables that agree with what is held: each record says of its thread, lock or task what the definitions do.
use Rattle.std.specs.Prelude.{◌≡◌, ℕ, ◌<◌, Bool, true, ◌&&◌, List, length, drop, is_some, Option, ◌==◌, nat_lt}
use Rattle.recording.specs.Codes.{post}
use Rattle.recording.specs.Faults.{first}
use Rattle.recording.specs.declared.row.Row.{Row}
use Rattle.happens_before.specs.Trace.{row}
use Rattle.rules.specs.declared.faults.StateFault.{StateFault}
use Rattle.rules.specs.Fair.{no_discipline}
use Rattle.rules.specs.Acceptance.{
  some,
  is_on,
  started,
  finished,
  known,
  queue,
  loops,
  current,
  posted,
  begun,
  holds,
  state_tests,
}
use Rattle.tables.specs.declared.tables.Tables.{Tables}
use Rattle.tables.specs.declared.tasks.TaskRecord.{TaskRecord}
use Rattle.tables.specs.declared.threads.ThreadRecord.{ThreadRecord}
use Rattle.rules.specs.Options.{is_of}
use Rattle.tables.specs.Records.{posted_to, stands_at, stage_of, thread_at, holder_at, task_at}

pub record ThreadMatches (initial : ℕ → Bool) (held : List Row) (t : ℕ) (r : ThreadRecord) : Type 0 where
  pub stage_is : r.stage ≡ stage_of (finished held t) (started held t) (known held initial t)
  pub queue_is : r.queue ≡ queue held t
  pub looping_is : r.looping ≡ loops held t
  pub current_is : (p : ℕ) → is_of r.current p ≡ current held t p
  pub current_small : (p : ℕ) → is_of r.current p ≡ true → p < 512

pub record LockMatches (held : List Row) (k : ℕ) (holder : Option ℕ) : Type 0 where
  pub holder_is : (t : ℕ) → is_of holder t ≡ holds held t k
  pub holder_small : (t : ℕ) → is_of holder t ≡ true → t < 64

pub record TaskMatches (held : List Row) (p : ℕ) (r : TaskRecord) : Type 0 where
  pub posted_is : is_some r.posting ≡ posted held p
  pub target_is : (t : ℕ) → posted_to r.posting t ≡ some (λ o. is_on post p o && o.target == t) held
  pub position_is : (b : ℕ) → stands_at r.posting b ≡ (nat_lt b (length held) && is_on post p (row held b))
  pub begun_is : r.begun ≡ begun held p

pub record Matches (initial : ℕ → Bool) (held : List Row) (tables : Tables) : Type 0 where
  -- every thread, lock and task has a place
  pub whole : (length tables.threads ≡ 64) × (length tables.holders ≡ 64) × (length tables.tasks ≡ 512)
  pub threads_match : (t : ℕ) → t < 64 → ThreadMatches initial held t (thread_at tables.threads t)
  pub locks_match : (k : ℕ) → k < 64 → LockMatches held k (holder_at tables.holders k)
  pub tasks_match : (p : ℕ) → p < 512 → TaskMatches held p (task_at tables.tasks p)

-- what an operation is refused for, however many are held and whatever the discipline
unfoldable pub table_refusal : (ℕ → Bool) → List Row → Row → Option StateFault
table_refusal initial held o = first (drop 1 (state_tests (no_discipline initial) held o))
