use Rattle.std.proofs.Common.{refl, ◌∙◌}
use Rattle.recording.proofs.LowFirst.{bytes_4}
use Rattle.recording.proofs.row.Row.to_bytes.Goals as goal

pub returns : goal.returns
returns c =
    rw (c.to_le_bytes.ensures, c.to_le_bytes-2.ensures, c.to_le_bytes-3.ensures ∙ bytes_4 c.args.self.delay) refl
