use Rattle.std.proofs.Common.{ℕ, ◌<◌, get_or, vec_items, arith}
use Rattle.std.proofs.lemmas.Result.{err_from_is_err_and}
use Rattle.files.specs.Files.Faulty.{in_header}
use Rattle.contents.proofs.FileBytes.{contents_lawful, file_again}
use Rattle.contents.proofs.recorded.Recording.read.Goals as goal

pub returns-in_err-header : goal.returns-in_err-header
returns-in_err-header c =
    let p = err_from_is_err_and c.from_residual.result c.from_residual.ensures.1 in
    rw (p.1, p.2.2, p.2.1) (in_header c.in_err-header.ensures)

pub returns : goal.returns
returns c =
    let file = c.args.file.now in
    let h = c.in_ok-header.ensures in
    let d = c.in_ok-header.header.discipline in
    let rows = vec_items c.in_ok-rows.rows in
    let r = c.in_ok-rows.ensures in
    let fits : (j : ℕ) → get_or file j 0 < 256 = (λ j. let f = c.type_inv.file j in omega arith) in (
      contents_lawful file h.0 fits d _ rows h.1.mask r,
      file_again file h.0 fits _ _ rows h.1.discipline h.1.mask r,
    )
