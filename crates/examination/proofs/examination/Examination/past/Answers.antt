use Rattle.std.proofs.Common.{◌≡◌, ◌≤◌, length, vec_items, sym, ap, ◌∙◌, subst, subst₂}
use Rattle.recording.specs.Masks.{bit}
use Rattle.rules.specs.Columns.{Right}
use Rattle.rules.specs.Fair.{FairTables}
use Rattle.tables.specs.Matches.{Matches}
use Rattle.index.specs.Indexed.{Indexed}
use Rattle.examination.specs.Holding.{Holding, held}
use Rattle.examination.proofs.examination.Examination.past.Goals as goal

pub returns : goal.returns
returns g c =
    let e = c.self.inside in
    let x = c.self.invariant.1 in
    let k = x.sound in
    let same : c.deref.result.now ≡ vec_items e.rows = c.deref.ensures.value in
    let same-columns : c.deref-2.result.now ≡ vec_items e.columns = c.deref-2.ensures.value in
    let mask_is = ap (λ (v : Holding _). v.mask) c.self.view_is in
    record {
      discipline_is = ap (λ (v : Holding _). v.discipline) c.self.view_is;
      rows_are = same ∙ ap held c.self.view_is;
      fair = subst₂ (λ m h. FairTables (bit m) h) mask_is (sym same) k.fair;
      agrees =
          record {
            matches = subst₂ (λ m h. Matches (bit m) h e.state.tables) mask_is (sym same) k.follows.matches;
            indexed = subst (λ h. Indexed h e.state.index) (sym same) k.follows.indexed;
            few = subst (λ h. length h ≤ 512) (sym same) k.few;
          };
      column_each = ap length same-columns ∙ (k.column_each ∙ sym (ap length same));
      right = subst₂ (Right (g.D.Discipline.precedence e.discipline)) (sym same) (sym same-columns) x.right;
    }
