use Rattle.std.proofs.Common.{◌≡◌, ℕ, ◌≤◌, true, ◌↔◌, List, [], ◌∷◌, ◌++◌, length, vec_items, sym, ap, ◌∙◌, subst, ap₂, arith}
use Rattle.recording.specs.Masks.{bit}
use Rattle.recording.specs.declared.row.Row.{Row}
use Rattle.columns.specs.declared.column.Column.{Column}
use Rattle.columns.specs.Positions.{has}
use Rattle.happens_before.specs.Order.{Before}
use Rattle.rules.specs.Acceptance.{opened}
use Rattle.rules.specs.Answers.{Count}
use Rattle.rules.proofs.Fair.{posted_first}
use Rattle.races.specs.Chains.{NearestTo}
use Rattle.races.specs.declared.nearest.NearestPosts.{NearestPosts}
use Rattle.races.proofs.Nearests.{nearest_right_push}
use Rattle.examination.specs.Exact.{Exact}
use Rattle.examination.specs.Holding.{held}
use Rattle.examination.proofs.Accepted.{seen_accepted, room, fine, fair_after}
use Rattle.examination.proofs.Pushed.{sound_push, right_push, counted}
use Rattle.examination.proofs.examination.Examination.file.Goals as goal

-- what is stored once all three lists have grown
grown :
    (held held' : List Row) (columns columns' : List Column) (nearests nearests' : List NearestPosts) (o row : Row) (c : Column) (x : NearestPosts)
    → row ≡ o → held' ≡ held ++ row ∷ [] → columns' ≡ columns ++ c ∷ [] → nearests' ≡ nearests ++ x ∷ []
    → (P : List Row → List Column → List NearestPosts → Type 0)
    → P (held ++ o ∷ []) (columns ++ c ∷ []) (nearests ++ x ∷ []) → P held' columns' nearests'
grown held held' columns columns' nearests nearests' o row c x q e f g P h =
    subst (λ a. P a columns' nearests') (sym (e ∙ ap (λ r. held ++ r ∷ []) q))
    (subst (λ a. P (held ++ o ∷ []) a nearests') (sym f) (subst (λ a. P (held ++ o ∷ []) (columns ++ c ∷ []) a) (sym g) h))

pub push_reserved-requires : goal.push_reserved-requires
push_reserved-requires g c =
    let e = c.self.inside in
    let s = opened (g.D.Discipline.admission e.discipline) (g.D.Discipline.precedence e.discipline) e.mask in
    let o = c.args.operation.row in
    let l = room s (vec_items e.rows) o (seen_accepted g.D.Discipline.admission g.D.Discipline.precedence o c.self.view_is c.requires) in
    omega (arith, l, e.rows.ok.0, c.self.invariant.0.row_room)

pub push_reserved-requires-2 : goal.push_reserved-requires-2
push_reserved-requires-2 g c =
    let e = c.self.inside in
    let s = opened (g.D.Discipline.admission e.discipline) (g.D.Discipline.precedence e.discipline) e.mask in
    let o = c.args.operation.row in
    let l = room s (vec_items e.rows) o (seen_accepted g.D.Discipline.admission g.D.Discipline.precedence o c.self.view_is c.requires) in
    omega (arith, l, c.self.invariant.1.sound.column_each, e.columns.ok.0, c.self.invariant.0.column_room)

pub push_reserved-requires-3 : goal.push_reserved-requires-3
push_reserved-requires-3 g c =
    let e = c.self.inside in
    let s = opened (g.D.Discipline.admission e.discipline) (g.D.Discipline.precedence e.discipline) e.mask in
    let o = c.args.operation.row in
    let l = room s (vec_items e.rows) o (seen_accepted g.D.Discipline.admission g.D.Discipline.precedence o c.self.view_is c.requires) in
    omega (arith, l, c.self.invariant.1.sound.nearest_each, e.nearests.ok.0, c.self.invariant.0.nearest_room)

pub invariant_of-self : goal.invariant_of-self
invariant_of-self g c =
    let e = c.self.inside in
    let rows = vec_items e.rows in
    let columns = vec_items e.columns in
    let nearests = vec_items e.nearests in
    let o = c.args.operation.row in
    let lawful-o = c.args.operation.lawful in
    let initial = bit e.mask in
    let P = g.D.Discipline.precedence e.discipline in
    let s = opened (g.D.Discipline.admission e.discipline) P e.mask in
    let none = seen_accepted g.D.Discipline.admission g.D.Discipline.precedence o c.self.view_is c.requires in
    let (spare, x) = c.self.invariant in
    let k = x.sound in
    let l = room s rows o none in
    let first = posted_first initial (rows ++ o ∷ []) (fair_after s rows o none lawful-o k.fair) in
    let column = c.column_of-column.result in
    let nearest = c.nearest_of-nearest.result in
    let newest : (i : ℕ) → (has column i ≡ true) ↔ Before P (rows ++ o ∷ []) i (length rows) =
    subst
    (λ v. (i : ℕ) → (has column i ≡ true) ↔ Before (g.D.Discipline.precedence v.discipline) (held v ++ o ∷ []) i (length (held v)))
    (sym c.self.view_is) c.column_of-column.ensures
    in
    let near : NearestTo (rows ++ o ∷ []) (length rows) nearest =
    subst (λ v. NearestTo (held v ++ o ∷ []) (length (held v)) nearest) (sym c.self.view_is) c.nearest_of-nearest.ensures
    in
    let at = c.len-position.ensures ∙ e.rows.ok.0 in
    let follows = c.accept.ensures initial rows k.follows (fine s rows o none) at (omega (arith, l, at)) in (
      record {
        row_room = omega (arith, c.push_reserved.ensures.capacity, spare.row_room);
        column_room = omega (arith, c.push_reserved-2.ensures.capacity, spare.column_room);
        nearest_room = omega (arith, c.push_reserved-3.ensures.capacity, spare.nearest_room);
      },
      grown rows _ columns _ nearests _ o _ column nearest c.row.ensures c.push_reserved.ensures.items c.push_reserved-2.ensures.items c.push_reserved-3.ensures.items
          (λ u v w. Exact P e.mask u v w c.accept.new.self)
          (record {
            sound = sound_push e.mask rows columns nearests e.state c.accept.new.self o column nearest k l lawful-o (fine s rows o none) follows;
            right = right_push P rows o columns column first k.column_each x.right newest;
            near = nearest_right_push rows nearests o first x.near nearest k.nearest_each near;
          }),
    )

pub returns-clause-counts : goal.returns-clause-counts
returns-clause-counts g c =
    let before = c.args.self.now in
    let o = c.args.operation.row in
    let P = g.D.Discipline.precedence before.discipline in
    let n = c.count.result in
    let seen : vec_items c.self.inside.rows ≡ held before = ap held c.self.view_is in
    let rows_are : vec_items c.push_reserved.new.self ≡ held before ++ o ∷ [] =
    c.push_reserved.ensures.items ∙ ap₂ (λ h r. h ++ r ∷ []) seen c.row.ensures
    in
    subst (λ h. Count (length (held before)) (λ i. Before P h i (length (held before))) n) (sym rows_are)
    (counted P (held before) o c.column_of-column.result n
    (subst (λ h. length h ≤ 512) seen c.self.invariant.1.sound.few) c.column_of-column.ensures c.count.ensures)

pub returns-clause-fair : goal.returns-clause-fair
returns-clause-fair g c = let kept = (invariant_of-self g c).1.sound in record { few = kept.few; fair = kept.fair }
