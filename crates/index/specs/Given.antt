-- Which held positions stand before a new operation, by the rules that look at two operations alone.
use Rattle.std.specs.Prelude.{Bool, not, ◌&&◌, ◌||◌, ◌==◌}
use Rattle.recording.specs.Codes.{threadinit, threadexit, join, attach_q, post, acquire, release, enable}
use Rattle.recording.specs.declared.row.Row.{Row}
use Rattle.rules.specs.Acceptance.{does, is_on, forks}

-- i stands before o by attach order, enable order, fork order, join order or lock order
abbrev pub kindly : Row → Row → Bool
kindly i o =
    (o.code == post && (does attach_q o.target i && not (o.target == o.thread)))
    || ((o.code == post && is_on enable o.item i)
    || ((o.code == threadinit && forks o.thread i)
    || ((o.code == join && does threadexit o.target i)
    || (o.code == acquire && (is_on release o.item i && not (i.thread == o.thread))))))
