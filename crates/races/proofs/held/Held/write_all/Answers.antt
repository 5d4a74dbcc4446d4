use Rattle.std.proofs.Common.{◌++◌, length, sym, ap, arith}
use Rattle.races.specs.Listing.{races_of}
use Rattle.races.proofs.Gathered.{gathered_none}
use Rattle.races.proofs.Listing.{room_below, written_more}
use Rattle.races.proofs.held.Held.write_all.Goals as goal

pub loop-later-init : goal.loop-later-init
loop-later-init c =
    let none = gathered_none (races_of c.args.self.now.rows.now c.args.self.now.columns.now c.args.self.now.nearests.now) in
    (sym (ap length none), sym (ap (λ xs. xs ++ c.args.races.now) none))

pub write_of-n-requires : goal.write_of-n-requires
write_of-n-requires c =
    let room = room_below c.args.self.now.rows.now c.args.self.now.columns.now c.args.self.now.nearests.now c.loop-later.later (omega arith) in
    (omega arith, (omega arith, omega (arith, room, c.loop-later.invariant.0, c.loop-later.auto.races, c.requires)))

pub loop-later-preserved : goal.loop-later-preserved
loop-later-preserved c =
    written_more c.args.self.now.rows.now c.args.self.now.columns.now c.args.self.now.nearests.now
    c.args.races.now c.loop-later.races c.write_of-n.new.races
    c.loop-later.n c.write_of-n.result c.loop-later.later
    c.loop-later.invariant.0 c.loop-later.invariant.1 c.write_of-n.ensures.place c.write_of-n.ensures.written
