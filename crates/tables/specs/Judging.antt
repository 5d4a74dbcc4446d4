-- The tests of acceptance, read off the tables.
use Rattle.std.specs.Prelude.{ℕ, Bool, cond, not, ◌&&◌, ◌||◌, [], ◌∷◌, is_some, Option, ◌==◌}
use Rattle.recording.specs.Codes.{
  threadinit,
  fork,
  join,
  attach_q,
  loop_on_q,
  post,
  begin,
  end,
  acquire,
  release,
}
use Rattle.recording.specs.Faults.{first}
use Rattle.recording.specs.declared.row.Row.{Row}
use Rattle.rules.specs.declared.faults.StateFault.{StateFault}
use Rattle.rules.specs.declared.faults.StateFault.TheVariants.{
  ThreadNotReady,
  WrongTarget,
  WrongQueue,
  WrongLock,
  OutOfTurn,
}
use Rattle.tables.specs.declared.tables.Tables.{Tables}
use Rattle.tables.specs.declared.tasks.TaskRecord.{TaskRecord}
use Rattle.tables.specs.declared.threads.ThreadRecord.{ThreadRecord}
use Rattle.rules.specs.Options.{is_of}
use Rattle.tables.specs.Records.{is_other, waits_at, is_unknown, is_created, is_running, is_finished, thread_at, holder_at, task_at}

-- why a post to the target is turned away
abbrev pub post_fault : ThreadRecord → TaskRecord → Option StateFault
post_fault target task =
    first
    ((not (is_running target.stage && target.queue), WrongTarget) ∷ (is_some task.posting, OutOfTurn) ∷ [])

-- why a begin by the thread is turned away
abbrev pub begin_fault : ThreadRecord → ℕ → TaskRecord → Option StateFault
begin_fault own thread task =
    first
    ((not own.looping, WrongQueue) ∷ (is_some own.current || not (waits_at task thread), OutOfTurn) ∷ [])

module _ (tables : Tables) (o : Row) where
  -- the records that an operation names
  abbrev pub own : ThreadRecord
  own = thread_at tables.threads o.thread

  abbrev pub other : ThreadRecord
  other = thread_at tables.threads o.target

  abbrev pub task : TaskRecord
  task = task_at tables.tasks o.item

  abbrev pub holder : Option ℕ
  holder = holder_at tables.holders o.item

  -- the tests, and the first that applies
  abbrev pub not_ready : Bool
  not_ready = cond (o.code == threadinit) (not (is_created own.stage)) (not (is_running own.stage))

  abbrev pub wrong_target_by_tables : Bool
  wrong_target_by_tables =
      (o.code == fork && not (is_unknown other.stage))
      || ((o.code == join && not (is_finished other.stage))
      || (o.code == post && not (is_running other.stage && other.queue)))

  abbrev pub wrong_queue_by_tables : Bool
  wrong_queue_by_tables =
      (o.code == attach_q && own.queue)
      || ((o.code == loop_on_q && (not own.queue || own.looping))
      || (o.code == begin && not own.looping))

  abbrev pub wrong_lock_by_tables : Bool
  wrong_lock_by_tables =
      (o.code == acquire && is_other holder o.thread) || (o.code == release && not (is_of holder o.thread))

  abbrev pub out_of_turn_by_tables : Bool
  out_of_turn_by_tables =
      (o.code == post && is_some task.posting)
      || ((o.code == begin
      && (is_some own.current || not (waits_at task o.thread)))
      || (o.code == end && not (is_of own.current o.item)))

  abbrev pub verdict : Option StateFault
  verdict =
      first
      ((not_ready, ThreadNotReady)
      ∷ (wrong_target_by_tables, WrongTarget)
      ∷ (wrong_queue_by_tables, WrongQueue)
      ∷ (wrong_lock_by_tables, WrongLock)
      ∷ (out_of_turn_by_tables, OutOfTurn)
      ∷ [])
