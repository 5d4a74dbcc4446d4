use Rattle.recording.specs.Masks.{bit}
use Rattle.tables.proofs.Agreement.{none_held}
use Rattle.tables.proofs.tables.Tables.new.Goals as goal

pub returns : goal.returns
returns c =
    none_held (bit c.args.mask) c.first_threads.result c.first_threads.ensures.whole
    c.first_threads.ensures.each
