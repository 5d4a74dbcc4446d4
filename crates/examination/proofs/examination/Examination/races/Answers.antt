use Rattle.std.proofs.Common.{◌≡◌, ◌≤◌, length, vec_items, sym, ap, ◌∙◌, subst, subst₂}
use Rattle.recording.specs.Masks.{bit}
use Rattle.happens_before.specs.Theorems.{PostedFirst}
use Rattle.rules.specs.Columns.{Right}
use Rattle.rules.proofs.Fair.{posted_first}
use Rattle.races.specs.Chains.{NearestRight}
use Rattle.examination.specs.Holding.{Holding, held, FairlyHeld}
use Rattle.examination.proofs.examination.Examination.races.Goals as goal

pub returns : goal.returns
returns g c =
    let e = c.self.inside in
    let x = c.self.invariant.1 in
    let k = x.sound in
    let same : c.deref.result.now ≡ vec_items e.rows = c.deref.ensures.value in
    let same-columns : c.deref-2.result.now ≡ vec_items e.columns = c.deref-2.ensures.value in
    let same-nearests : c.deref-3.result.now ≡ vec_items e.nearests = c.deref-3.ensures.value in
    record {
      rows_are = same ∙ ap held c.self.view_is;
      fair = subst FairlyHeld c.self.view_is (record { few = k.few; fair = k.fair });
      few = subst (λ h. length h ≤ 512) (sym same) k.few;
      posted = subst PostedFirst (sym same) (posted_first (bit e.mask) (vec_items e.rows) k.fair);
      column_each = ap length same-columns ∙ (k.column_each ∙ sym (ap length same));
      nearest_each = ap length same-nearests ∙ (k.nearest_each ∙ sym (ap length same));
      right =
          subst (λ d. Right (g.D.Discipline.precedence d) c.deref.result.now c.deref-2.result.now)
          (ap (λ (v : Holding _). v.discipline) c.self.view_is)
          (subst₂ (Right (g.D.Discipline.precedence e.discipline)) (sym same) (sym same-columns) x.right);
      near = subst₂ NearestRight (sym same) (sym same-nearests) x.near;
    }
