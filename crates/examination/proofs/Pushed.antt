-- What is stored, one operation further.
use Rattle.std.proofs.Common.{◌≡◌, ℕ, zero, suc, ◌+◌, ◌-◌, ◌<◌, ◌≤◌, Bool, true, false, cond, ◌↔◌, List, [], ◌∷◌, ◌++◌, length, sym, refl, ap, ◌∙◌, subst, ⊎_elim, add-zero, arith, length-append}
use Rattle.std.proofs.lemmas.List.{get_or_append_left, get_or_push}
use Rattle.std.proofs.lemmas.Bool.{cases_lt, cases_Bool}
use Rattle.recording.specs.Lawful.{lawful}
use Rattle.recording.specs.declared.row.Row.{Row}
use Rattle.columns.specs.declared.column.Column.{Column}
use Rattle.columns.specs.Positions.{has, tally}
use Rattle.columns.specs.Sweep.{column_at}
use Rattle.columns.proofs.Counts.{tally_split}
use Rattle.happens_before.specs.Order.{Precedence, Before}
use Rattle.happens_before.specs.Theorems.{PostedFirst}
use Rattle.happens_before.proofs.Extended.{extended_before}
use Rattle.races.specs.declared.nearest.NearestPosts.{NearestPosts}
use Rattle.recording.specs.Masks.{bit}
use Rattle.rules.specs.Answers.{Count}
use Rattle.rules.specs.Columns.{Right}
use Rattle.rules.specs.Fair.{refused_by_tables}
use Rattle.rules.proofs.Determined.{before_rises}
use Rattle.rules.proofs.Fair.{tables_push}
use Rattle.examination.specs.declared.state.State.{State}
use Rattle.examination.specs.Follows.{Follows}
use Rattle.examination.specs.Sound.{Sound}

pub sound_push :
    (mask : ℕ) (held : List Row) (columns : List Column) (nearests : List NearestPosts) (state state' : State) (o : Row) (c : Column)
    (x : NearestPosts) → Sound mask held columns nearests state → length held < 512 → lawful o ≡ true
    → refused_by_tables (bit mask) held o ≡ false → Follows (bit mask) (held ++ o ∷ []) state'
    → Sound mask (held ++ o ∷ []) (columns ++ c ∷ []) (nearests ++ x ∷ []) state'
sound_push mask held columns nearests state state' o c x s l w fine follows =
    let a = length-append held (o ∷ []) in
    let b = length-append columns (c ∷ []) in
    let d = length-append nearests (x ∷ []) in
    let e = s.column_each in
    let f = s.nearest_each in
    record {
      few = omega arith;
      fair = tables_push (bit mask) held o s.fair w fine;
      follows = follows;
      column_each = omega arith;
      nearest_each = omega arith;
    }

pub right_push :
    (D : Precedence) (held : List Row) (o : Row) (columns : List Column) (c : Column) → PostedFirst (held ++ o ∷ [])
    → length columns ≡ length held → Right D held columns
    → ((i : ℕ) → (has c i ≡ true) ↔ Before D (held ++ o ∷ []) i (length held)) → Right D (held ++ o ∷ []) (columns ++ c ∷ [])
right_push D held o columns c first long right newest i k l =
    let a = length-append held (o ∷ []) in
    ⊎_elim
    (λ (lt : k < length held).
    let u : k < length columns = omega arith in
    let same : has (column_at (columns ++ c ∷ []) k) i ≡ has (column_at columns k) i = ap (λ x. has x i) (rw get_or_append_left refl) in
    let b = extended_before held (o ∷ []) D first i k lt in
    let r = right i k lt in
    (λ e. b.1 (r.0 (sym same ∙ e)), λ h. same ∙ r.1 (b.0 h)))
    (λ (ge : length held ≤ k).
    let q : length columns ≡ k = omega arith in
    let p : length held ≡ k = omega arith in
    let same : has (column_at (columns ++ c ∷ []) k) i ≡ has c i = ap (λ x. has x i) (rw get_or_push refl) in
    let r : (has c i ≡ true) ↔ Before D (held ++ o ∷ []) i k =
    subst (λ n. (has c i ≡ true) ↔ Before D (held ++ o ∷ []) i n) p (newest i)
    in
    (λ e. r.0 (sym same ∙ e), λ h. same ∙ r.1 h))
    (cases_lt k (length held))

none_counted : (p : ℕ → Bool) (n : ℕ) → ((k : ℕ) → p k ≡ false) → tally p n ≡ 0
unfolding tally
none_counted p zero h = refl
none_counted p (suc n) h = (λ t. none_counted p n h t + cond (h n t) 1 0) ∙ omega arith

pub counted :
    (D : Precedence) (held : List Row) (o : Row) (c : Column) (m : ℕ) → length held ≤ 512
    → ((i : ℕ) → (has c i ≡ true) ↔ Before D (held ++ o ∷ []) i (length held)) → m ≡ tally (has c) 512
    → Count (length held) (λ i. Before D (held ++ o ∷ []) i (length held)) m
counted D held o c m few newest e =
    let n = length held in
    let whole : 512 ≡ n + (512 - n) = omega arith in
    let above : (k : ℕ) → has c (n + k) ≡ false =
    (λ k.
    ⊎_elim
    (λ (h : has c (n + k) ≡ true). let l = before_rises D (held ++ o ∷ []) (n + k) n ((newest (n + k)).0 h) in let z : ⊥ = omega arith in absurd z)
    (λ h. h)
    (cases_Bool (has c (n + k))))
    in
    record {
      test = has c;
      tells = λ i l. newest i;
      counted =
          e
          ∙ (ap (tally (has c)) whole
          ∙ (tally_split (has c) n (512 - n) ∙ (ap (λ x. tally (has c) n + x) (none_counted _ (512 - n) above) ∙ add-zero (tally (has c) n))));
    }
