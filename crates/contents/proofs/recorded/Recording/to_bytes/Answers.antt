use Rattle.std.proofs.Common.{◌≡◌, ℕ, ◌<◌, true, length, ap, ◌∙◌, ap₂, arith}
use Rattle.recording.specs.Lawful.{lawful}
use Rattle.files.specs.Files.{Contents, file_of}
use Rattle.recording.specs.Rows.{row_at}
use Rattle.contents.proofs.Held.{not_refused, written_whole}
use Rattle.contents.proofs.recorded.Recording.to_bytes.Goals as goal

pub unreachable-requires : goal.unreachable-requires
unreachable-requires c =
    let held = c.args.self.now in
    let rows = held.rows.items in
    let same = held.rows.ok.0 in
    let lent = c.deref.ensures.value in
    let long = ap length lent in
    let zeros = c.in_ok-bytes.ensures.len in
    let lawful_rows : (k : ℕ) → k < length c.deref.result.now → lawful (row_at c.deref.result.now k) ≡ true = (λ k l. ap (λ xs. lawful (row_at xs k)) lent ∙ held.lawful k (omega arith)) in
    not_refused (record { discipline = c.number.result; mask = held.mask; rows = c.deref.result.now }) (omega arith) (omega arith) lawful_rows
    _ _ (omega arith) c.in-Err.ensures.writes.0

pub returns : goal.returns
returns c =
    let held = c.args.self.now in
    let contents : Contents = record { discipline = c.number.result; mask = held.mask; rows = c.deref.result.now } in
    let written = c.in-Ok.ensures.writes in
    let same = held.rows.ok.0 in
    let long = ap length c.deref.ensures.value in
    let zeros = c.in_ok-bytes.ensures.len in
    written_whole contents written.0 c.in_ok-bytes.bytes _ _ _ (omega arith) (omega arith) written.1 written.3
    ∙ ap₂ (λ d xs. file_of (record { discipline = d; mask = held.mask; rows = xs })) c.number.ensures.0 c.deref.ensures.value
