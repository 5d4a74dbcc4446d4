use Rattle.std.proofs.Common.{◌≡◌, ◌+◌, ◌<◌, length, sym, ap, ◌∙◌, arith}
use Rattle.std.proofs.lemmas.List.{length-take-le}
use Rattle.races.specs.Listing.{gathered, race_of}
use Rattle.races.proofs.Gathered.{gathered_none}
use Rattle.races.proofs.Listing.{races_none, tested, count_here, more_none}
use Rattle.races.proofs.held.Held.count_of.Goals as goal
use Rattle.races.proofs.held.Held.count_of.Goals.{then-races_with, else-races_with}

pub returns-then-not-is_access : goal.returns-then-not-is_access
returns-then-not-is_access c =
    sym
    (ap length
    (races_none c.args.self.now.rows.now c.args.self.now.columns.now c.args.self.now.nearests.now c.args.position
    (sym c.if-not-is_access.ensures)))

pub loop-earlier-init : goal.loop-earlier-init
loop-earlier-init c =
    (sym (ap length (gathered_none (race_of c.args.self.now.rows.now c.args.self.now.columns.now c.args.self.now.nearests.now c.args.position))), omega arith)

pub loop-earlier-preserved : goal.loop-earlier-preserved
loop-earlier-preserved c =
    let rows = c.args.self.now.rows.now in
    let columns = c.args.self.now.columns.now in
    let i = c.loop-earlier.earlier in
    let j = c.args.position in
    let nearests = c.args.self.now.nearests.now in
    let l : i < j = omega (arith, c.loop-earlier-test.true, length-take-le c.args.position c.args.self.now.rows.now) in
    let inv = c.loop-earlier.invariant in
    elim c.if-races_with.branch [
      | then-races_with w ↦ (
        let is =
            tested rows columns nearests c.column_at-column.result i j c.races_with.result l c.column_at-column.ensures
            c.races_with.ensures in
            w.n-is
            ∙ (ap (λ k. k + 1) inv.0
            ∙ sym (count_here rows columns nearests i j (sym is ∙ w.if-races_with.true))),
        omega (arith, w.n-is, inv.1),
      )
      | else-races_with w ↦ (
        let is =
            tested rows columns nearests c.column_at-column.result i j c.races_with.result l c.column_at-column.ensures
            c.races_with.ensures in
            w.n-is ∙ (inv.0 ∙ sym (ap length (more_none rows columns nearests i j (sym is ∙ w.if-races_with.false)))),
        omega (arith, w.n-is, inv.1),
      )
    ]

pub returns : goal.returns
returns c =
    let e : c.loop-earlier.earlier ≡ c.args.position = omega (arith, length-take-le c.args.position c.args.self.now.rows.now) in
    c.loop-earlier.invariant.0
    ∙ ap (λ k. length (gathered (race_of c.args.self.now.rows.now c.args.self.now.columns.now c.args.self.now.nearests.now c.args.position) k)) e
