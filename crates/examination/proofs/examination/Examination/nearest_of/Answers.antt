use Rattle.std.proofs.Common.{◌∷◌, ◌++◌, [], length, ap, ◌∙◌, subst, sym, arith}
use Rattle.std.proofs.lemmas.List.{get_or_push, length_push}
use Rattle.recording.specs.Masks.{bit}
use Rattle.rules.specs.Fair.{FairTables}
use Rattle.rules.proofs.Fair.{posted_first}
use Rattle.tables.specs.Matches.{Matches}
use Rattle.races.specs.Chains.{no_posts, NearestTo, NearestRight, NearestOfAdded}
use Rattle.examination.specs.Holding.{held, setting_of}
use Rattle.examination.proofs.Accepted.{fair_after, idle}
use Rattle.examination.proofs.examination.Examination.nearest_of.Goals as goal

pub returns : goal.returns
returns g c =
    let e = c.args.self.now in
    let rows = held e in
    let o = c.args.operation.row in
    let initial = bit e.mask in
    let s = setting_of g.D.Discipline.admission g.D.Discipline.precedence e in
    let past = c.past.ensures in
    let lent = c.races.ensures in
    let nearests = c.races.result.nearests.now in
    let found = c.nearest_of.result in
    let matches = subst (λ h. Matches initial h c.past.result.tables.now) past.rows_are past.agrees.matches in
    let fair = fair_after s rows o c.requires c.args.operation.lawful (subst (FairTables initial) past.rows_are past.fair) in
    let tasks = c.task_of.ensures.member initial rows matches (idle s rows o c.requires) in
    let each = lent.nearest_each ∙ ap length lent.rows_are in
    let near : NearestRight (rows ++ o ∷ []) (nearests ++ found ∷ []) =
    subst (λ h. NearestOfAdded h nearests c.thread.result.number c.post_of-post.result found) lent.rows_are
    c.nearest_of.ensures.nearest o (sym c.thread.ensures) (posted_first initial (rows ++ o ∷ []) fair)
    (c.post_of-post.ensures initial rows o matches fair tasks) each (subst (λ h. NearestRight h nearests) lent.rows_are lent.near)
    in
    subst (NearestTo (rows ++ o ∷ []) (length rows)) (get_or_push nearests found no_posts (length rows) each)
    (near (length rows) (let l = length_push rows o in omega arith))
