use Rattle.std.proofs.Common.{◌≡◌, ℕ, ◌<◌, Bool, true, false, take, sym, ap, ◌∙◌, subst, arith, rules}
use Rattle.std.proofs.lemmas.Iterator.{YieldsList-from_slice, cases_from_any}
use Rattle.std.proofs.lemmas.List.{get_or-take, get_or_default, length-take-le}
use Rattle.recording.specs.Rows.{blank}
use Rattle.recording.specs.declared.row.Row.{Row}
use Rattle.happens_before.specs.Theorems.{InRange}
use Rattle.happens_before.specs.Trace.{row, Posts}
use Rattle.tables.specs.Matches.{Matches}
use Rattle.examination.proofs.Asked.{posted_here, posted_nowhere_else, unposted}
use Rattle.examination.specs.Refusals.{goes_ahead}
use Rattle.examination.proofs.Turns.{never_posted, posted_once}
use Rattle.examination.proofs.turn.is_overtaken.Goals as goal

pub returns-in_default : goal.returns-in_default
returns-in_default g c initial matches ranged =
    let rows = c.args.past.now.rows.now in
    let n = c.number.result in
    let same : n ≡ c.args.task.number = c.number.ensures.0 in
    never_posted rows c.args.task.number _
    (λ b p. unposted initial rows c.args.past.now.tables.now matches n c.number.ensures.1 (sym c.in_default.ensures) b (subst (Posts rows b) (sym same) p))

pub returns : goal.returns
returns g c initial matches ranged =
    let rows = c.args.past.now.rows.now in
    let t = c.args.thread.number in
    let P = g.D.Discipline.precedence c.args.past.now.discipline.now in
    let n = c.number.result in
    let same : n ≡ c.args.task.number = c.number.ensures.0 in
    let x = c.in-Some.posting in
    let b = x.position in
    let at = posted_here initial rows c.args.past.now.tables.now matches n c.number.ensures.1 x (sym c.in-Some.ensures) in
    let ahead = goes_ahead P rows t in
    let post = c.in-Some-get.post.now in
    let tells : Bool → Row → Type 0 =
    λ r o. (i : ℕ → Bool) → Matches i rows c.args.past.now.tables.now → InRange o → r ≡ ahead post o in
    let long = length-take-le b rows (omega (arith, at.0)) in
    let post_is : post ≡ row rows b = c.in-Some-get.ensures.lookup.1 ∙ get_or_default rows b _ blank at.0 in
    let tells_at : (r : Bool) (a : ℕ) → a < b → tells r (row (take b rows) a) → ahead (row rows b) (row rows a) ≡ r =
    λ r a l w.
    sym
    (subst (tells r) (get_or-take b rows a blank l) w initial matches (ranged a (omega (arith, l, at.0)))
    ∙ ap (λ o. ahead o (row rows a)) post_is)
    in
    let found =
    cases_from_any _ _ _ (tells true) (tells false) c.any.ensures.ran (YieldsList-from_slice (take b rows) c.iter.ensures.rest)
    (λ r q k. k.met.1) (λ r q k. (search rules, k.met.1))
    in
    posted_once rows c.args.task.number (λ b a. ahead (row rows b) (row rows a)) b at.0 (subst (Posts rows b) same at.1)
    (λ k h. posted_nowhere_else initial rows c.args.past.now.tables.now matches n c.number.ensures.1 x (sym c.in-Some.ensures) k (subst (Posts rows k) (sym same) h))
    c.any.result found
    (λ h. let l : h.0 < b = omega (arith, h.1, long) in (h.0, l, tells_at true h.0 l (h.2 blank)))
    (λ none a l. tells_at false a l (none a blank (omega arith) (omega (arith, l, long))))
