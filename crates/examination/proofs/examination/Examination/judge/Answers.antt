use Rattle.std.proofs.Common.{◌≡◌, ◌≤◌, length, Some, subst}
use Rattle.std.proofs.lemmas.Result.{err_from_is_err_and, MatchResult-at_ok, MatchResult-at_err}
use Rattle.recording.specs.Masks.{bit}
use Rattle.rules.proofs.Fair.{all_in_range}
use Rattle.rules.specs.Acceptance.{Judged, opened, refusal}
use Rattle.examination.specs.Holding.{held, setting_of}
use Rattle.examination.specs.Refusals.{discipline_refusal}
use Rattle.examination.proofs.Refused.{when_full, by_tables, by_discipline}
use Rattle.examination.proofs.examination.Examination.judge.Goals as goal

pub returns-then-past-ge-MOST : goal.returns-then-past-ge-MOST
returns-then-past-ge-MOST g c =
    let e = c.args.self.now in
    when_full (setting_of g.D.Discipline.admission g.D.Discipline.precedence e) (held e) c.args.operation.row
    (subst (λ h. 512 ≤ length h) c.past-past.ensures.rows_are c.if-past-ge-MOST.true)

pub returns-in_err-judge : goal.returns-in_err-judge
returns-in_err-judge g c =
    let e = c.args.self.now in
    let o = c.args.operation.row in
    let s = setting_of g.D.Discipline.admission g.D.Discipline.precedence e in
    let past = c.past-past.ensures in
    let p = err_from_is_err_and c.from_residual.result c.from_residual.ensures.1 in
    rw (p.1, p.2)
    (subst (λ h. refusal s h o ≡ Some c.in_err-judge.field-0.0) past.rows_are
    (by_tables s c.past-past.result.rows.now o c.in_err-judge.field-0.0 c.if-past-ge-MOST.false
    (MatchResult-at_err _ _ _ c.in_err-judge.was
    (c.judge.ensures (bit e.mask) c.past-past.result.rows.now past.agrees.matches))))

pub returns : goal.returns
returns g c =
    let e = c.args.self.now in
    let o = c.args.operation.row in
    let s = setting_of g.D.Discipline.admission g.D.Discipline.precedence e in
    let past = c.past-past.ensures in
    let rows = c.past-past.result.rows.now in
    subst (λ h. Judged (refusal s h o) c.judge_turn.result) past.rows_are
    (by_discipline s rows o c.judge_turn.result c.if-past-ge-MOST.false
    (MatchResult-at_ok _ _ _ c.in_ok-judge.was (c.judge.ensures (bit e.mask) rows past.agrees.matches))
    (subst
    (λ d. Judged (discipline_refusal (opened (g.D.Discipline.admission d) (g.D.Discipline.precedence d) e.mask) rows o) c.judge_turn.result)
    past.discipline_is
    (c.judge_turn.ensures e.mask past.agrees.matches (all_in_range (bit e.mask) rows past.fair))))
