use Rattle.std.proofs.Common.{◌≡◌, eqb, Some, sym, ap, ◌∙◌, eq-eqb}
use Rattle.std.proofs.lemmas.Bool.{cond-true}
use Rattle.recording.specs.Codes.{begin}
use Rattle.recording.specs.Rows.{row_of}
use Rattle.recording.proofs.LawfulRows.{thread_fits}
use Rattle.tables.specs.Records.{thread_at}
use Rattle.ordering.proofs.Postings.{begin_member}
use Rattle.ordering.proofs.column.task_of.Goals as goal

pub returns-in-Begin : goal.returns-in-Begin
returns-in-Begin c =
    let o = c.args.operation.row in
    let is : row_of o.thread c.action.result ≡ o = c.action.ensures in
    let begins = sym is ∙ ap (row_of o.thread) c.in-Begin.is in
    let code_is = ap (λ r. r.code) begins in
    let item-is = ap (λ r. r.item) begins ∙ sym c.number.ensures.0 in
    record {
      member =
          λ initial held matches idle p.
          let own = matches.threads_match o.thread (thread_fits o c.args.operation.lawful) in
          begin_member held o _ _ p code_is item-is (idle code_is) own.current_is own.current_small;
      found =
          ap Some (sym item-is)
          ∙ sym
          (cond-true (eqb o.code begin) (Some o.item) (thread_at c.args.tables.now.threads o.thread).current
          (eq-eqb o.code begin code_is));
    }
