use Rattle.std.proofs.Common.{ap, ◌∙◌}
use Rattle.recording.proofs.LawfulRows.{thread_fits}
use Rattle.rules.proofs.Fair.{allowed, begin_turn}
use Rattle.tables.specs.Records.{thread_at}
use Rattle.examination.proofs.Allowed.{allowed_none}
use Rattle.examination.proofs.state.State.accept.Goals as goal

pub returns : goal.returns
returns c =
    λ initial held follows fine at room.
    let o = c.args.operation.row in
    let tables = c.args.self.now.tables in
    let a = allowed initial held o fine in
    let tasks = c.task_of-task.ensures.member initial held follows.matches (λ e. (begin_turn initial held o a e).0) in
    let own = follows.matches.threads_match o.thread (thread_fits o c.args.operation.lawful) in
    let looping =
    c.is_looping-looping.ensures ∙ (ap (λ t. (thread_at tables.threads t).looping) c.thread.ensures ∙ own.looping_is)
    in
    record {
      matches = c.accept.ensures.agrees initial held follows.matches (allowed_none initial held o fine) at room;
      indexed = c.note_operation.ensures.indexed held follows.indexed at room looping tasks;
    }
