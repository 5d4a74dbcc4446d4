-- The faults of a feed as text.
use Rattle.std.specs.Prelude.{ℕ, List, codes}
use Rattle.files.specs.Texts.{placed, fault_text}
use Rattle.files.specs.declared.faults.read.ReadFault.TheVariants as read
use Rattle.rules.specs.Numbers.{state_number}
use Rattle.feeding.specs.declared.fault.FeedFault.{FeedFault}
use Rattle.feeding.specs.declared.fault.FeedFault.TheVariants.{File, Record, State}

-- those of a file and of a record as reading tells them; that of the state with the record's number
abbrev pub feed_text : FeedFault → List ℕ
feed_text (File f) = fault_text (read.File f)
feed_text (Record at) = fault_text (read.Record at)
feed_text (State at) = placed (codes "state") (state_number at.fault) at.number
