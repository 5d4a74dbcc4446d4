-- What is stored, cut to the first n operations.
use Rattle.std.proofs.Common.{◌≡◌, ℕ, ◌<◌, ◌≤◌, ◌↔◌, List, [], length, take, sym, ap, ◌∙◌, subst, arith}
use Rattle.std.proofs.lemmas.List.{get_or-take, length-take}
use Rattle.recording.specs.declared.row.Row.{Row}
use Rattle.columns.specs.declared.column.Column.{Column}
use Rattle.columns.specs.Positions.{has}
use Rattle.columns.specs.Sweep.{column_at}
use Rattle.happens_before.specs.Order.{Precedence, Before}
use Rattle.happens_before.specs.Theorems.{PostedFirst}
use Rattle.happens_before.proofs.Extended.{cut_before}
use Rattle.races.specs.declared.nearest.NearestPosts.{NearestPosts}
use Rattle.recording.specs.Masks.{bit}
use Rattle.rules.specs.Columns.{Right}
use Rattle.rules.specs.Fair.{FairTables}
use Rattle.rules.proofs.Fair.{tables_cut}
use Rattle.examination.specs.declared.state.State.{State}
use Rattle.examination.specs.Follows.{Follows}
use Rattle.examination.specs.Sound.{Sound}

module _ (mask n : ℕ) (held held' : List Row) (columns columns' : List Column) (nearests nearests' : List NearestPosts) (state state' : State)
    (sound : Sound mask held columns nearests state)
    (rows_cut : held' ≡ take n held) (columns-cut : columns' ≡ take n columns) (nearests-cut : nearests' ≡ take n nearests)
    (follows : FairTables (bit mask) held' → length held' ≤ 512 → Follows (bit mask) held' state')
  where
    fair : FairTables (bit mask) held'
    fair = subst (FairTables (bit mask)) (sym rows_cut) (tables_cut (bit mask) n held sound.fair)

    long : length held' ≡ length (take n held)
    long = ap length rows_cut

    few : length held' ≤ 512
    few = let a = length-take n held in let b = long in let d = sound.few in omega arith

    pub sound_cut : Sound mask held' columns' nearests' state'
    sound_cut =
        let a = length-take n held in
        let b = length-take n columns in
        let d = length-take n nearests in
        let p = sound.column_each in
        let q = sound.nearest_each in
        let u = ap length columns-cut in
        let v = ap length nearests-cut in
        let w = long in
        record { few = few; fair = fair; follows = follows fair few; column_each = omega arith; nearest_each = omega arith }

pub right_cut :
    (n : ℕ) (held held' : List Row) (columns columns' : List Column) → held' ≡ take n held → columns' ≡ take n columns
    → (D : Precedence) → PostedFirst held → Right D held columns → Right D held' columns'
right_cut n held held' columns columns' rows_cut columns-cut D first right i k l =
    let a = length-take n held in
    let b = ap length rows_cut in
    let u : k < n = omega arith in
    let v : k < length held = omega arith in
    let same : has (column_at columns' k) i ≡ has (column_at columns k) i =
    ap (λ x. has (column_at x k) i) columns-cut ∙ ap (λ x. has x i) (get_or-take n columns k (record { words = [] }) u)
    in
    let c = subst (λ x. Before D x i k ↔ Before D held i k) (sym rows_cut) (cut_before n held D first i k u) in
    let r = right i k v in
    (λ e. c.1 (r.0 (sym same ∙ e)), λ h. same ∙ r.1 (c.0 h))
