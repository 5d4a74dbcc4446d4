use Rattle.std.proofs.Common.{◌≤◌, length, vec_items, sym, subst, subst₂, arith}
use Rattle.recording.specs.Masks.{bit}
use Rattle.rules.specs.Fair.{FairTables}
use Rattle.rules.proofs.Fair.{posted_first}
use Rattle.races.specs.Chains.{NearestRight}
use Rattle.races.proofs.Nearests.{nearest_right_cut}
use Rattle.examination.specs.Follows.{Follows}
use Rattle.examination.proofs.Cut.{sound_cut, right_cut}
use Rattle.examination.proofs.examination.Examination.cut.Goals as goal

pub invariant_of-self : goal.invariant_of-self
invariant_of-self g c =
    let e = c.self.inside in
    let (room, x) = c.self.invariant in
    let rows = vec_items c.truncate.new.self in
    let state = c.rebuild-state.result in
    let first = posted_first (bit e.mask) (vec_items e.rows) x.sound.fair in (
      record {
        row_room = omega (arith, c.truncate.ensures.capacity, room.row_room);
        column_room = omega (arith, c.truncate-2.ensures.capacity, room.column_room);
        nearest_room = omega (arith, c.truncate-3.ensures.capacity, room.nearest_room);
      },
      record {
        sound =
            sound_cut e.mask c.args.n (vec_items e.rows) rows (vec_items e.columns) (vec_items c.truncate-2.new.self)
            (vec_items e.nearests) (vec_items c.truncate-3.new.self) e.state state x.sound c.truncate.ensures.items
            c.truncate-2.ensures.items c.truncate-3.ensures.items
            (subst (λ h. FairTables (bit e.mask) h → length h ≤ 512 → Follows (bit e.mask) h state) c.deref.ensures.value
            c.rebuild-state.ensures);
        right =
            right_cut c.args.n (vec_items e.rows) rows (vec_items e.columns) (vec_items c.truncate-2.new.self)
            c.truncate.ensures.items c.truncate-2.ensures.items (g.D.Discipline.precedence e.discipline) first x.right;
        near =
            subst₂ NearestRight (sym c.truncate.ensures.items) (sym c.truncate-3.ensures.items)
            (nearest_right_cut c.args.n (vec_items e.rows) (vec_items e.nearests) first x.near);
      },
    )

pub returns-clause-fair : goal.returns-clause-fair
returns-clause-fair g c = let kept = (invariant_of-self g c).1.sound in λ _. record { few = kept.few; fair = kept.fair }
