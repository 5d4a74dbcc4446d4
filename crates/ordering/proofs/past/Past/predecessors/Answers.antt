use Rattle.std.proofs.Common.{◌≡◌, ℕ, ◌<◌, Bool, ◌&&◌, eqb, length, sym, ap, ◌∙◌, lt-ltb}
use Rattle.columns.specs.Positions.{has}
use Rattle.columns.specs.Sweep.{swept}
use Rattle.happens_before.specs.Trace.{row}
use Rattle.ordering.proofs.Closed.{swept_is, filled_so, directly_is, before_it, held_ranged, member_small}
use Rattle.ordering.proofs.past.Past.predecessors.Goals as goal

pub returns : goal.returns
returns g c =
    record {
      before =
          λ initial agrees fair long right tasks i.
          let held = c.args.self.now.rows.now in
          let o = c.args.operation.row in
          let columns = c.args.self.now.columns.now in
          let D = g.D.Discipline.precedence c.args.self.now.discipline.now in
          let own : ℕ → Bool = has c.own-own.result.now in
          let first : ℕ → Bool = has c.directly-column.result in
          let owns : (j : ℕ) → j < length held → own j ≡ eqb (row held j).thread o.thread =
          (λ j l.
          c.own-own.ensures held agrees.indexed j
          ∙ (λ t. lt-ltb j (length held) l t && eqb (row held j).thread (c.thread.ensures t)))
          in
          let direct =
          c.directly-column.ensures initial agrees (held_ranged D held o columns initial fair right) tasks
          (λ p e. member_small D held o columns initial fair right p (sym (tasks p) ∙ e))
          in
          before_it D held o columns initial fair right i (has c.close.new.column i)
          (c.close.ensures i
          ∙ (ap (λ n. swept columns own n first i) long
          ∙ swept_is D held o columns own (filled_so D held o columns initial fair right) owns first
          (directly_is D held o columns initial fair right first direct) i));
      apart = λ ne. absurd (ne c.if-self.false);
    }
