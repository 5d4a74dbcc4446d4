use Rattle.std.proofs.Common.{◌≡◌, ◌++◌, take, string_bytes}
use Rattle.reporting.specs.Lines.{race_lines}
use Rattle.reporting.proofs.lines.push_races.Given as goal

abbrev pub invariant-loop-row : goal.invariant-loop-row
invariant-loop-row l = string_bytes l.text ≡ string_bytes l.initial.text ++ race_lines (take l.row-index l.races)
