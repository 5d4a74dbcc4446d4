use Rattle.std.proofs.Common.{sym}
use Rattle.examination.proofs.TaskPosts.{found, not_found, no_task}
use Rattle.examination.proofs.chain.post_of.Goals as goal

pub returns-in_err-task : goal.returns-in_err-task
returns-in_err-task c =
    rw c.from_residual.ensures
    (λ initial held o matches fair tasks. no_task initial held o c.args.tables.now c.args.task matches fair tasks c.in_err-task.was)

pub returns-in_err-posting : goal.returns-in_err-posting
returns-in_err-posting c =
    rw c.from_residual-in_err-posting.ensures
    (λ initial held o matches fair tasks.
    not_found initial held o c.args.tables.now c.args.task matches fair tasks c.in_ok-task.field-0 c.in_ok-task.was
    (sym c.in_err-posting.ensures))

pub returns : goal.returns
returns c =
    λ initial held o matches fair tasks.
    found initial held o c.args.tables.now c.args.task matches fair tasks c.in_ok-task.field-0 c.in_ok-posting.posting
    c.in_ok-task.was (sym c.in_ok-posting.ensures)
