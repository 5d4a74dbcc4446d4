use Rattle.std.proofs.Common.{vec_items, refl, ◌∙◌, arith}
use Rattle.std.proofs.lemmas.Result.{err_from_is_err_and}
use Rattle.files.specs.Files.{count_in}
use Rattle.files.specs.Files.Faulty.{in_record}
use Rattle.files.proofs.LawfulFiles.{long}
use Rattle.contents.proofs.ReadRows.{stops, goes_on, all_read}
use Rattle.contents.proofs.recorded.read.read_rows.Goals as goal

pub returns-in_err-operation : goal.returns-in_err-operation
returns-in_err-operation c =
    let p = err_from_is_err_and c.from_residual.result c.from_residual.ensures.1 in
    let x = c.in-Some.ensures.steps in
    let y = c.in_err-operation.ensures in
    let file = c.args.file.now in
    let l = c.loop-record in
    rw (p.1, p.2.2, p.2.1)
    (in_record c.requires
    (stops file l.record-iterator.records.now _ c.in-Some.record.bytes.now l.record-iterator.number _ (vec_items l.rows) l.invariant x.same
    x.moves c.next.new.self.within x.part.1 (count_in file) (long file c.requires) _ _ _ y.0 x.part.0 y.1))

pub loop-record-preserved : goal.loop-record-preserved
loop-record-preserved c =
    let file = c.args.file.now in
    let l = c.loop-record in
    let x = c.in-Some.ensures.steps in
    let y = c.in_ok-operation.ensures in
    goes_on file l.record-iterator.records.now _ c.in-Some.record.bytes.now l.record-iterator.number _ (vec_items l.rows) l.invariant x.same
    x.moves c.next.new.self.within x.part.1 (λ j. let f = c.type_inv.file j in omega arith) _ y.0 (c.row.ensures ∙ y.1) (vec_items c.push.new.self)
    c.in_ok-push.ensures.items

pub returns : goal.returns
returns c =
    let file = c.args.file.now in
    let l = c.loop-record in
    let x = c.in-None.ensures.steps in
    all_read file l.record-iterator.records.now l.record-iterator.number (count_in file) (vec_items l.rows) l.invariant x.part l.record-iterator.within
    (long file c.requires) refl
