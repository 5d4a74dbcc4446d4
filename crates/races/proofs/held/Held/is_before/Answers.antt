use Rattle.std.proofs.Common.{rules}
use Rattle.races.proofs.Classes.{has_nothing}
use Rattle.races.proofs.held.Held.is_before.Goals as goal

pub returns : goal.returns
returns c = search (rules, has_nothing)
