use Rattle.std.proofs.Common.{true, [], Ok, Err, vec_items, IfOk, Result, List, ℕ, sym, refl, ap, ◌∙◌, subst, subst₂}
use Rattle.std.proofs.lemmas.Result.{IfOk-weaker}
use Rattle.recording.specs.declared.row.Row.{Row}
use Rattle.dispatch.specs.Recorded.{precedence_of}
use Rattle.rules.specs.Answers.{RaceList}
use Rattle.examination.specs.Holding.{held}
use Rattle.feeding.specs.Feeding.{Feeds}
use Rattle.feeding.specs.declared.fault.FeedFault.{FeedFault}
use Rattle.feeding.specs.declared.fault.FeedFault.TheVariants.{File}
use Rattle.reporting.specs.Lines.{report_text}
use Rattle.reporting.specs.Reports.{setting_in, Reported, examined, refused, lines_of, is_accepted, Refuses}
use Rattle.reporting.specs.declared.report.ReportLines.{ReportLines}
use Rattle.reporting.proofs.Settings.{setting_read}
use Rattle.reporting.proofs.report.report.Goals as goal

fault_told :
    {E : Type 0} (file : List ℕ) (f : FeedFault) (after : List Row) (r : Result ReportLines E)
    → Feeds (setting_in file) file [] (Err f) after
    → IfOk r (Refuses f)
    → IfOk r (λ report. Reported file (lines_of report) (is_accepted report))
fault_told file f after r fed =
    IfOk-weaker r _ _ (λ report told. subst₂ (Reported file) (sym told.0) (sym told.1) (refused f after fed))

pub returns-in-Err : goal.returns-in-Err
returns-in-Err c =
    fault_told c.args.file.now (File c.in-Err.fault) [] c.refused.result (c.in-Err.ensures, refl) c.refused.ensures

pub returns-in-Ok-feed : goal.returns-in-Ok-feed
returns-in-Ok-feed c =
    let file = c.args.file.now in
    let ops = c.in-Ok-feed.ops in
    let races = vec_items c.in_ok-races-in-Ok-feed.races in
    let after = c.feed.new.examination in
    let o = c.in_ok-examination.ensures in
    let w = c.in-Ok-feed.ensures in
    let same = setting_read file c.in-Ok.header _ _ c.in-Ok.ensures.1 o.2 o.1 in
    let fed = subst₂ (λ s rows. Feeds s file rows (Ok ops) (held after)) same o.0 w.feeds in
    let precedes = ap precedence_of w.setting.0 ∙ ap (λ s. s.precedence) same in
    let listed = subst (λ P. RaceList P (held after) races) precedes c.in_ok-races-in-Ok-feed.ensures.listed in
    subst (λ text. Reported file text true)
    (sym (c.in_ok-report_text-in-Ok-feed.ensures ∙ ap (report_text ops) c.deref.ensures.value))
    (examined ops (held after) races fed listed)

pub returns : goal.returns
returns c =
    let file = c.args.file.now in
    let after = held c.feed.new.examination in
    let o = c.in_ok-examination.ensures in
    let same = setting_read file c.in-Ok.header _ _ c.in-Ok.ensures.1 o.2 o.1 in
    fault_told file c.in-Err-feed.fault after c.refused-in-Err-feed.result
    (subst₂ (λ s rows. Feeds s file rows (Err c.in-Err-feed.fault) after) same o.0 c.in-Err-feed.ensures.feeds)
    c.refused-in-Err-feed.ensures
