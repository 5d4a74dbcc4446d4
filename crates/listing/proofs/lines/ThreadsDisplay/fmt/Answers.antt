use Rattle.std.proofs.Common.{[], sym, rules}
use Rattle.std.proofs.Output.{writes_in_calls_nil, has_written_of_eq, has_written_append}
use Rattle.listing.proofs.MoreLines.{threads_none, threads_step}
use Rattle.listing.proofs.lines.ThreadsDisplay.fmt.Goals as goal
use Rattle.listing.proofs.lines.ThreadsDisplay.fmt.Goals.{then-self-thread-eq1+in_ok-write, else-self-thread-eq1}

pub loop-thread-init : goal.loop-thread-init
loop-thread-init g c =
    λ plain.
    has_written_of_eq _ _ [] _ _ (sym (threads_none c.args.self.now.0))
    (record { wrote = writes_in_calls_nil _ _; plain = plain })

pub loop-thread-preserved : goal.loop-thread-preserved
loop-thread-preserved g c =
    λ plain.
    has_written_of_eq _ _ _ _ _ (sym (threads_step c.args.self.now.0 c.loop-thread.thread-counter))
    (has_written_append _ _ _ _ _ _ (c.loop-thread.invariant plain)
    (elim c.if-self-thread-eq1.branch [
      | then-self-thread-eq1+in_ok-write w ↦ search rules
      | else-self-thread-eq1 w ↦ search rules
    ]))
