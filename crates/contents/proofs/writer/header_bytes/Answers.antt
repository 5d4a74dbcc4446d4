use Rattle.std.proofs.Common.{refl, ◌∙◌}
use Rattle.recording.proofs.LowFirst.{bytes_8}
use Rattle.contents.proofs.writer.header_bytes.Goals as goal

pub returns : goal.returns
returns c =
    rw (c.to_le_bytes.ensures, c.to_le_bytes-2.ensures, c.to_le_bytes-3.ensures ∙ bytes_8 c.args.mask) refl
