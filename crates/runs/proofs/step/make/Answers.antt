use Rattle.std.proofs.Common.{◌≡◌, ◌<◌, ◌≤◌, ◌++◌, length, take, drop, vec_items, sym, ap, ◌∙◌, subst, rules}
use Rattle.rules.specs.Runs.{listed, needs as needs_more, Step}
use Rattle.examination.specs.Holding.{held, setting_of}
use Rattle.runs.specs.Calls.{call_of}
use Rattle.runs.specs.declared.calls.Call.{Call}
use Rattle.std.proofs.lemmas.List.{take_at}
use Rattle.runs.proofs.Steps.{step_lists, step_lists_not}
use Rattle.runs.proofs.step.make.Goals as goal

pub returns-in-Ok-clause-step : goal.returns-in-Ok-clause-step
returns-in-Ok-clause-step g c =
    let e = c.args.examination.now in
    let s = setting_of g.D.Discipline.admission g.D.Discipline.precedence e in
    let lent = c.in-List.places in
    let out = c.list.new.places in
    let long : length out ≡ lent.len = search rules in
    let after = take lent.len (out ++ drop (length out) lent.items) in
    let whole : after ≡ out = take_at out (drop (length out) lent.items) lent.len long in
    let was = c.deref_mut.ensures.value in
    let w = c.in-Ok.ensures in
    let n = c.in-Ok.n in
    let l = w.listed in
    subst (λ (k : Call). Step s (held e) (call_of k) (listed n after) (held e)) (sym c.in-List.is)
    (step_lists s (held e) n (vec_items lent) after l.0 l.1 l.2.0 (subst (λ xs. n ≤ length xs) was w.kept.0)
    (whole ∙ (l.2.1 ∙ ap (λ xs. l.0 ++ drop n xs) was)))

pub returns-in-Err-clause-step : goal.returns-in-Err-clause-step
returns-in-Err-clause-step g c =
    let e = c.args.examination.now in
    let s = setting_of g.D.Discipline.admission g.D.Discipline.precedence e in
    let lent = c.in-List.places in
    let out = c.list.new.places in
    let long : length out ≡ lent.len = search rules in
    let after = take lent.len (out ++ drop (length out) lent.items) in
    let whole : after ≡ out = take_at out (drop (length out) lent.items) lent.len long in
    let was = c.deref_mut.ensures.value in
    let w = c.in-Err.ensures in
    let n = c.in-Err.short.needed in
    let l = w.listed in
    subst (λ (k : Call). Step s (held e) (call_of k) (needs_more n after) (held e)) (sym c.in-List.is)
    (step_lists_not s (held e) n (vec_items lent) after l.0 l.1 l.2 (subst (λ xs. length xs < n) was w.kept.0)
    (whole ∙ (w.kept.1 ∙ was)))
