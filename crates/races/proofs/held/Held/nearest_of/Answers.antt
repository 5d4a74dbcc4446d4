use Rattle.std.proofs.Common.{◌≡◌, Bool, true, false, cond, ltb, length, Some, None, Option, sym, ap, ◌∙◌, subst}
use Rattle.std.specs.Option.{UnwrapsOrElse}
use Rattle.happens_before.specs.Trace.{row}
use Rattle.races.specs.declared.nearest.NearestPosts.{NearestPosts}
use Rattle.races.specs.Chains.{no_posts, nearest_at, nearest_past, nearest_added}
use Rattle.races.proofs.Nearests.{nearest_added_right}
use Rattle.races.proofs.held.Held.nearest_of.Goals as goal

-- as the derived default says it
abbrev NoneEach : NearestPosts → Type 0
NoneEach p = (p.environment ≡ None) × ((p.delayed ≡ None) × (p.foreign ≡ None))

no_posts_is : (p : NearestPosts) → NoneEach p → p ≡ no_posts
no_posts_is p (e, (d, f)) = λ t. record { environment = e t; delayed = d t; foreign = f t }

unwrapped :
    (b : Bool) (o : Option NearestPosts) (x posts : NearestPosts)
    → o ≡ cond b (Some x) None → UnwrapsOrElse o NoneEach posts → posts ≡ cond b x no_posts
unwrapped true o x posts e u = subst (λ o. UnwrapsOrElse o NoneEach posts) e u
unwrapped false o x posts e u = no_posts_is posts (subst (λ o. UnwrapsOrElse o NoneEach posts) e u)

pub returns-in-Some : goal.returns-in-Some
returns-in-Some c =
    let rows = c.args.self.now.rows.now in
    let nearests = c.args.self.now.nearests.now in
    let t = c.args.thread.number in
    let b = c.in-Some.post in
    let found : c.unwrap_or_default.result ≡ nearest_added rows nearests t c.args.post =
    unwrapped (ltb b (length rows)) c.nearest_past.result (nearest_past t b (row rows b) (nearest_at nearests b))
    c.unwrap_or_default.result c.nearest_past.ensures c.unwrap_or_default.ensures
    ∙ sym (ap (nearest_added rows nearests t) c.in-Some.is)
    in
    record { nearest = nearest_added_right rows nearests t c.args.post _ found; found = found }

pub returns-in-None : goal.returns-in-None
returns-in-None c =
    let rows = c.args.self.now.rows.now in
    let nearests = c.args.self.now.nearests.now in
    let t = c.args.thread.number in
    let found : c.default.result ≡ nearest_added rows nearests t c.args.post =
    no_posts_is c.default.result c.default.ensures ∙ sym (ap (nearest_added rows nearests t) c.in-None.is)
    in
    record { nearest = nearest_added_right rows nearests t c.args.post _ found; found = found }
