use Rattle.happens_before.proofs.Races.{class_one}
use Rattle.happens_before.proofs.classes_exclude.Goals as goal

pub returns : goal.returns
returns c = class_one
