use Rattle.std.proofs.Common.{◌≡◌, ◌+◌, ◌<◌, true, List, [], ◌++◌, length, take, drop, set, sym, ap, ◌∙◌, ap₂, arith}
use Rattle.std.proofs.lemmas.List.{append-nil, length-take-le, take-append-drop}
use Rattle.rules.specs.Numbers.{race_number}
use Rattle.rules.specs.declared.race.RaceRow.{RaceRow}
use Rattle.races.specs.Classes.{racing}
use Rattle.races.specs.Listing.{gathered, race_of}
use Rattle.races.proofs.Gathered.{gathered_none}
use Rattle.races.proofs.Listing.{races_none, tested, count_here, room_here, written_here, more_none}
use Rattle.races.proofs.held.Held.write_of.Goals as goal
use Rattle.races.proofs.held.Held.write_of.Goals.{then-races_with, else-races_with}

-- nothing is written yet
untouched : (old xs : List RaceRow) (from : _) → xs ≡ [] → old ≡ (take from old ++ xs) ++ drop from old
untouched old xs from e =
    sym (ap (λ ys. (take from old ++ ys) ++ drop from old) e
    ∙ (ap (λ ys. ys ++ drop from old) (append-nil (take from old)) ∙ take-append-drop from old))

pub returns-then-not-is_access : goal.returns-then-not-is_access
returns-then-not-is_access c =
    let none =
    races_none c.args.self.now.rows.now c.args.self.now.columns.now c.args.self.now.nearests.now c.args.later
    (sym c.if-not-is_access.ensures) in
    let e = ap length none in
    record { place = omega (arith, e); written = untouched c.args.races.now _ c.args.from none }

pub loop-earlier-init : goal.loop-earlier-init
loop-earlier-init c =
    let none =
    gathered_none (race_of c.args.self.now.rows.now c.args.self.now.columns.now c.args.self.now.nearests.now c.args.later) in
    let e = ap length none in
    (omega (arith, e), untouched c.args.races.now _ c.args.from none)

before : (c : goal.After-number-class) → c.loop-earlier.earlier < c.args.later
before c = omega (arith, c.loop-earlier-test.true, length-take-le c.args.later c.args.self.now.rows.now)

races : (c : goal.After-number-class) → racing c.args.self.now.rows.now c.args.self.now.columns.now c.loop-earlier.earlier c.args.later ≡ true
races c =
    sym
    (tested c.args.self.now.rows.now c.args.self.now.columns.now c.args.self.now.nearests.now c.column_at-column.result
    c.loop-earlier.earlier c.args.later c.races_with.result (before c) c.column_at-column.ensures c.races_with.ensures)
    ∙ c.if-races_with.true

room : (c : goal.After-number-class) → c.loop-earlier.n < length c.loop-earlier.races
room c =
    let h =
    room_here c.args.self.now.rows.now c.args.self.now.columns.now c.args.self.now.nearests.now c.loop-earlier.earlier c.args.later
    (races c) (before c) in
    omega (arith, h, c.loop-earlier.invariant.0, c.loop-earlier.auto.races, c.requires)

pub bounds-races-n : goal.bounds-races-n
bounds-races-n c = room c

pub loop-earlier-preserved : goal.loop-earlier-preserved
loop-earlier-preserved c =
    let rows = c.args.self.now.rows.now in
    let columns = c.args.self.now.columns.now in
    let nearests = c.args.self.now.nearests.now in
    let i = c.loop-earlier.earlier in
    let j = c.args.later in
    let old = c.args.races.now in
    let from = c.args.from in
    let n = c.loop-earlier.n in
    let inv = c.loop-earlier.invariant in
    let l : i < j = omega (arith, c.loop-earlier-test.true, length-take-le c.args.later c.args.self.now.rows.now) in
    let is =
    tested rows columns nearests c.column_at-column.result i j c.races_with.result l c.column_at-column.ensures
    c.races_with.ensures in
    elim c.if-races_with.branch [
      | then-races_with w ↦
          let e = sym is ∙ w.if-races_with.true in
          let h = room_here rows columns nearests i j e l in
          let fits : n < length old = omega (arith, h, inv.0, c.requires) in
          let m = count_here rows columns nearests i j e in
          let class = w.number-class.ensures ∙ ap race_number w.classify.ensures in (
            omega (arith, w.n-is, m, inv.0),
            w.races-is
                ∙ (ap₂ (λ (xs : List RaceRow) k. set xs n (record { earlier = i; later = j; class = k })) inv.1 class
                ∙ (written_here rows columns nearests i j e old from n inv.0 fits
                ∙ ap (λ k. (take from old ++ gathered (race_of rows columns nearests j) (i + 1)) ++ drop k old) (sym w.n-is))),
          )
      | else-races_with w ↦
          let none = more_none rows columns nearests i j (sym is ∙ w.if-races_with.false) in
          let m = ap length none in (
            omega (arith, w.n-is, m, inv.0),
            w.races-is
                ∙ (inv.1 ∙ ap₂ (λ xs k. (take from old ++ xs) ++ drop k old) (sym none) (sym w.n-is)),
          )
    ]
