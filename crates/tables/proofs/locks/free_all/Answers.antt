use Rattle.std.proofs.Common.{◌<◌, length, set, None, ap, ◌∙◌, arith, length-set}
use Rattle.std.proofs.lemmas.List.Edits.{map_over_more}
use Rattle.std.proofs.lemmas.List.{get_or_default}
use Rattle.tables.specs.Records.{holder_at}
use Rattle.tables.specs.Steps.{freed}
use Rattle.tables.proofs.locks.free_all.Goals as goal

pub loop-holder-preserved : goal.loop-holder-preserved
loop-holder-preserved c =
    let xs = c.args.holders.now in
    let ys = c.loop-holder.holders in
    let i = c.loop-holder.holder-index in
    let lx : i < length xs = omega arith in
    let ly : i < length ys = omega arith in (
      simp length-set (omega arith),
      ap (set ys i) c.freed_by.ensures
          ∙ map_over_more (freed c.args.thread) xs ys i (holder_at ys i) lx c.loop-holder.invariant.1
          (get_or_default ys i None (holder_at ys i) ly),
    )
