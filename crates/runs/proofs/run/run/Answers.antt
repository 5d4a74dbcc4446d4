use Rattle.std.proofs.Common.{◌≡◌, List, [], ◌∷◌, ◌++◌, map, length, vec_items, sym, refl, ap, ◌∙◌, subst₂, append_assoc, arith, length-append, rules}
use Rattle.std.proofs.lemmas.List.{map-append}
use Rattle.recording.specs.declared.row.Row.{Row}
use Rattle.rules.specs.Runs.{Run, done, Step}
use Rattle.rules.proofs.RenamedRuns.{renamed_runs}
use Rattle.examination.specs.Holding.{held}
use Rattle.runs.specs.Calls.{call_of, answer_of}
use Rattle.rules.specs.Acceptance.{opened}
use Rattle.runs.proofs.Steps.{run_push, none_left}
use Rattle.runs.proofs.Lawful.{lawful_calls}
use Rattle.runs.proofs.run.run.Goals as goal

pub loop-call-init : goal.loop-call-init
loop-call-init g c =
    let o = c.in_ok-examination.ensures in
    let d = c.in_ok-examination.examination.discipline in
    let s = opened (g.D.Discipline.admission d) (g.D.Discipline.precedence d) c.args.mask in
    let w = c.in_ok-answers.ensures in (
      subst₂ (λ (vs : List _) (h : List Row). Run s [] [] (map answer_of vs) h) (sym w.items) (sym o.0) done,
      o.1,
      refl,
      refl,
      ap length w.items,
      omega (arith, ap length c.into_iter-call-iterator.ensures.into_iter_gives.0, w.capacity, c.len.ensures, c.args.calls.ok.0),
    )

pub loop-call-preserved : goal.loop-call-preserved
loop-call-preserved g c =
    let d = c.in_ok-examination.examination.discipline in
    let i = c.loop-call.invariant in
    let e = c.loop-call.examination in
    let left = held c.make.new.examination in
    let call = c.in-Some.call in
    let made = c.make.result in
    let s = opened (g.D.Discipline.admission d) (g.D.Discipline.precedence d) c.args.mask in
    let step : Step s (held e) (call_of call) (answer_of made) left =
    subst₂
    (λ x n.
    Step (opened (g.D.Discipline.admission x) (g.D.Discipline.precedence x) n) (held e) (call_of call) (answer_of made) left)
    i.2 i.1 c.make.ensures.step
    in
    let pushed : map answer_of (vec_items c.push_reserved.new.self) ≡ map answer_of (vec_items c.loop-call.answers) ++ answer_of made ∷ [] =
    ap (map answer_of) c.push_reserved.ensures.items ∙ map-append answer_of (vec_items c.loop-call.answers) (made ∷ [])
    in
    let called = map-append call_of c.loop-call.yielded (call ∷ []) in (
      subst₂ (λ xs ys. Run s [] xs ys left) (sym called) (sym pushed) (run_push i.0 step),
      c.make.ensures.setting.1 ∙ i.1,
      c.make.ensures.setting.0 ∙ i.2,
      append_assoc c.loop-call.yielded (call ∷ []) c.next.new.self.rest.items
          ∙ (ap (λ xs. c.loop-call.yielded ++ xs) (sym c.in-Some.ensures.steps.0) ∙ i.3),
      omega (
        arith,
        ap length c.push_reserved.ensures.items,
        length-append (vec_items c.loop-call.answers) (made ∷ []),
        length-append c.loop-call.yielded (call ∷ []),
        i.4,
      ),
      omega (arith, c.push_reserved.ensures.capacity, i.5),
    )

pub returns : goal.returns
returns g c =
    let o = c.in_ok-examination.ensures in
    let i = c.loop-call.invariant in
    let rest = c.loop-call.call-iterator.rest.items in
    let none : length rest ≡ 0 = search rules in
    let all : c.loop-call.yielded ≡ vec_items c.args.calls =
    none_left c.loop-call.yielded rest (vec_items c.args.calls) none (i.3 ∙ c.into_iter-call-iterator.ensures.into_iter_gives.0)
    in
    let answers = map answer_of (vec_items c.loop-call.answers) in
    let left = held c.loop-call.examination in
    let d = c.args.discipline in
    let s = opened (g.D.Discipline.admission d) (g.D.Discipline.precedence d) c.args.mask in
    let ran : Run s [] (map call_of (vec_items c.args.calls)) answers left =
    subst₂
    (λ x ys.
    Run (opened (g.D.Discipline.admission x) (g.D.Discipline.precedence x) c.args.mask) [] (map call_of ys) answers left)
    o.2 all i.0
    in
    record {
      ran = (left, ran);
      renamed = renamed_runs s (map call_of (vec_items c.args.calls)) answers left (lawful_calls (vec_items c.args.calls)) ran;
    }
