use Rattle.std.proofs.Common.{◌≡◌, ◌++◌, sym, refl, ap, ◌∙◌, subst, append-nil, arith}
use Rattle.std.proofs.lemmas.Result.{err_from_is_err_and}
use Rattle.files.specs.declared.reader.Reader.{Reader}
use Rattle.examination.specs.Holding.{held, setting_of}
use Rattle.feeding.specs.Feeding.{Taken, rows_of}
use Rattle.feeding.proofs.Records.{same_setting, no_rows, row_is, inside, at_end, held_next, taken_next, stopped}
use Rattle.feeding.proofs.feed.feed.Goals as goal

pub loop-record-init : goal.loop-record-init
loop-record-init g c =
    let h = held c.args.examination.now in
    let r = c.new-record-items.ensures in
    let same = c.into_iter-record-iterator.ensures.into_iter_gives in
    let none : c.into_iter-record-iterator.result.number ≡ 0 = ap (λ (x : Reader). x.number) same ∙ r.0 in (
      ap (λ (x : Reader). x.records.now) same ∙ r.1,
      sym (ap (λ x. h ++ x) (no_rows c.args.file.now _ none) ∙ append-nil h),
      (λ k l. let z : ⊥ = omega (arith, none, l) in absurd z),
      (λ k. k),
      (refl, refl),
    )

pub loop-record-preserved : goal.loop-record-preserved
loop-record-preserved g c =
    let file = c.args.file.now in
    let e = c.args.examination.now in
    let l = c.loop-record in
    let i = l.invariant in
    let x = c.in-Some.ensures.steps in
    let w = c.in_ok-take.ensures in
    let s = setting_of g.D.Discipline.admission g.D.Discipline.precedence e in
    let s' = setting_of g.D.Discipline.admission g.D.Discipline.precedence l.examination in
    let same : s' ≡ s = same_setting g.D.Discipline.admission g.D.Discipline.precedence e l.examination i.4 in
    let here = row_is file l.record-iterator.records.now c.in-Some.record.bytes.now l.record-iterator.number i.0 x.part.1 in
    let after = held c.take.new.examination in (
      x.same ∙ i.0,
      held_next s s' file (held e) (held l.examination) after l.record-iterator.number _ same i.1 i.2 here _ x.moves w.takes.2,
      taken_next s s' file (held e) (held l.examination) after l.record-iterator.number _ same i.1 i.2 here _ x.moves w.takes.0
          w.takes.1,
      (λ k. w.fair (i.3 k)),
      (w.setting.0 ∙ i.4.0, w.setting.1 ∙ i.4.1),
    )

pub returns-in_err-take : goal.returns-in_err-take
returns-in_err-take g c =
    let p = err_from_is_err_and c.from_residual-in_err-take.result c.from_residual-in_err-take.ensures.1 in
    let file = c.args.file.now in
    let e = c.args.examination.now in
    let l = c.loop-record in
    let i = l.invariant in
    let x = c.in-Some.ensures.steps in
    let w = c.in_err-take.ensures in
    let s = setting_of g.D.Discipline.admission g.D.Discipline.precedence e in
    let s' = setting_of g.D.Discipline.admission g.D.Discipline.precedence l.examination in
    let same : s' ≡ s = same_setting g.D.Discipline.admission g.D.Discipline.precedence e l.examination i.4 in
    let here = row_is file l.record-iterator.records.now c.in-Some.record.bytes.now l.record-iterator.number i.0 x.part.1 in
    let after = held c.take.new.examination in
    let fine = c.in_ok-header.ensures.0 in
    let room = inside file c.next.new.self.records.now l.record-iterator.number fine (x.same ∙ i.0)
    (omega (arith, x.moves, c.next.new.self.within)) in
    record {
      feeds =
          rw (p.1, p.2)
          (stopped s s' file (held e) (held l.examination) after l.record-iterator.number _ same i.1 i.2 here _ _ x.part.0 fine room
          w.takes);
      setting = (w.setting.0 ∙ i.4.0, w.setting.1 ∙ i.4.1);
      fair = λ k. w.fair (i.3 k);
    }

pub returns : goal.returns
returns g c =
    let file = c.args.file.now in
    let e = c.args.examination.now in
    let l = c.loop-record in
    let i = l.invariant in
    let x = c.in-None.ensures.steps in
    let h = c.in_ok-header.ensures in
    let s = setting_of g.D.Discipline.admission g.D.Discipline.precedence e in
    let all : l.record-iterator.number ≡ c.in_ok-header.header.count =
    at_end file l.record-iterator.records.now l.record-iterator.number h.0 i.0 x.part l.record-iterator.within ∙ sym h.1.count
    in
    record {
      feeds = (
        h.0,
        h.1.count,
        subst (Taken s file (held e)) all i.2,
        i.1 ∙ ap (λ n. held e ++ rows_of file n) all,
      );
      setting = i.4;
      fair = i.3;
    }
