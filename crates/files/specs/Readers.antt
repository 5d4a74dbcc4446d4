-- What a reader hands out.
use Rattle.std.specs.Prelude.{◌≡◌, ◌+◌, ◌*◌, ◌<◌, length, take, drop, MatchOption, Option}
use Rattle.files.specs.declared.reader.Reader.{Reader}
use Rattle.files.specs.declared.reader.Record.{Record}

-- the next twelve bytes with their number, or nothing where fewer are left
pub record Hands (before : Reader) (given : Option Record) (after : Reader) : Type 0 where
  pub part :
      MatchOption given
      (length before.records.now < 12 * (before.number + 1))
      (λ p. (p.number ≡ before.number) × (p.bytes.now ≡ take 12 (drop (12 * before.number) before.records.now)))
  pub moves : MatchOption given (after.number ≡ before.number) (λ _. after.number ≡ before.number + 1)
  pub same : after.records.now ≡ before.records.now
