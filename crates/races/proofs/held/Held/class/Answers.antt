use Rattle.std.proofs.Common.{◌<◌, arith}
use Rattle.std.specs.Cmp.{ranked}
use Rattle.races.proofs.Classes.{classed_is, classed_same}
use Rattle.races.proofs.held.Held.class.Goals as goal

pub returns-in-Less : goal.returns-in-Less
returns-in-Less c D posted right near =
    let l : c.args.i < c.args.j = ranked _ _ _ c.in-Less.ensures in
    classed_is D c.args.self.now.rows.now c.args.self.now.columns.now c.args.self.now.nearests.now posted right near
    c.args.i c.args.j c.args.i c.args.j c.class_of_pair.result
    (omega arith) (omega arith) l c.class_of_pair.ensures

pub returns-in-Greater : goal.returns-in-Greater
returns-in-Greater c D posted right near =
    let l : c.args.j < c.args.i = ranked _ _ _ c.in-Greater.ensures in
    classed_is D c.args.self.now.rows.now c.args.self.now.columns.now c.args.self.now.nearests.now posted right near
    c.args.i c.args.j c.args.j c.args.i c.class_of_pair-in-Greater.result
    (omega arith) (omega arith) l c.class_of_pair-in-Greater.ensures

pub returns-in-Equal : goal.returns-in-Equal
returns-in-Equal c D posted right near = classed_same D c.args.self.now.rows.now c.args.i c.args.j (ranked _ _ _ c.in-Equal.ensures)
