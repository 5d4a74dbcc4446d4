use Rattle.std.proofs.Common.{◌≡◌, ℕ, map, length, ap, ◌∙◌, arith, rules}
use Rattle.std.specs.List.{sum, range_with_len}
use borrow.Author.Tests.{tests}
use Rattle.std.proofs.lemmas.Iterator.{YieldsList-from_range, YieldsList-from_map}
use Rattle.std.proofs.lemmas.Iterator.Consumers.{YieldsList-at, sum_from_yields_List, fits_from_yields_list}
use Rattle.races.specs.Listing.{races_of, races_below, all_races}
use Rattle.races.proofs.Listing.{all_few}
use Rattle.races.proofs.Gathered.{gathered_sum}
use Rattle.races.proofs.held.Held.count.Goals as goal

pub sum-requires-clause-fits : goal.sum-requires-clause-fits
sum-requires-clause-fits c =
    let rows = c.args.self.now.rows.now in
    let columns = c.args.self.now.columns.now in
    let nearests = c.args.self.now.nearests.now in
    let n = c.count_held.result in
    let each : ℕ → ℕ = λ j. length (races_of rows columns nearests j) in
    let few = all_few rows columns nearests in
    let total : sum (map each (range_with_len 0 n)) ≡ length (all_races rows columns nearests) =
    gathered_sum (races_of rows columns nearests) n ∙ ap (λ k. length (races_below rows columns nearests k)) c.count_held.ensures in
    fits_from_yields_list c.map.result _
    (YieldsList-from_map _ each (YieldsList-at c.map.ensures.source (YieldsList-from_range 0 n n (cc) (omega arith)))
    c.map.ensures.closure (λ x r q k. search (rules, tests)))
    (omega arith)

pub returns : goal.returns
returns c =
    let rows = c.args.self.now.rows.now in
    let columns = c.args.self.now.columns.now in
    let nearests = c.args.self.now.nearests.now in
    let n = c.count_held.result in
    let each : ℕ → ℕ = λ j. length (races_of rows columns nearests j) in
    sum_from_yields_List c.map.result _ c.sum.ensures.ran
    (YieldsList-from_map _ each (YieldsList-at c.map.ensures.source (YieldsList-from_range 0 n n (cc) (omega arith)))
    c.map.ensures.closure (λ x r q k. search (rules, tests)))
    ∙ gathered_sum (races_of rows columns nearests) n
    ∙ ap (λ k. length (races_below rows columns nearests k)) c.count_held.ensures
