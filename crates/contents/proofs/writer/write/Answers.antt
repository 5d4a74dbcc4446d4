use Rattle.std.proofs.Common.{◌≡◌, ℕ, ◌+◌, ◌*◌, ◌^◌, ◌<◌, ◌≤◌, true, List, length, sym, refl, subst, arith, rules}
use Rattle.std.proofs.lemmas.Result.{err_from_is_err_and}
use Rattle.files.specs.Files.{Contents, Lawful}
use Rattle.recording.specs.Rows.{row_at}
use Rattle.recording.specs.Lawful.{lawful}
use Rattle.contents.specs.declared.faults.write.WriteFault.TheVariants.{TooShort}
use Rattle.recording.specs.declared.row.Row.{Row}
use Rattle.contents.specs.Writing.{Refused}
use Rattle.contents.specs.Writing.Refused.{no_discipline, too_many, unlawful_row, too_short}
use Rattle.contents.proofs.ReadBack.{read_back, file_long}
use Rattle.contents.proofs.WrittenRecords.{whole_file}
use Rattle.contents.proofs.writer.write.Goals as goal

pub returns-then-is_err-clause-writes : goal.returns-then-is_err-clause-writes
returns-then-is_err-clause-writes c = (no_discipline (search rules), refl)

pub returns-then-rows-gt-MOST_RECORDS-clause-writes : goal.returns-then-rows-gt-MOST_RECORDS-clause-writes
returns-then-rows-gt-MOST_RECORDS-clause-writes c = (too_many (search rules) c.if-rows-gt-MOST_RECORDS.true, refl)

pub returns-in_err-judge_rows-clause-writes : goal.returns-in_err-judge_rows-clause-writes
returns-in_err-judge_rows-clause-writes c =
    let p = err_from_is_err_and c.from_residual.result c.from_residual.ensures.1 in
    rw (p.1, p.2)
    (unlawful_row (search rules) c.if-rows-gt-MOST_RECORDS.false c.in_err-judge_rows.ensures, refl)

-- what is written, once it is judged
abbrev contents : ℕ → ℕ → List Row → Contents
contents d m rows = record { discipline = d; mask = m; rows = rows }

judged :
    (d m : ℕ) (rows : List Row) → d ≤ 2 → m < 2 ^ 64 → length rows ≤ 512
    → ((k : ℕ) → k < length rows → lawful (row_at rows k) ≡ true) → Lawful (contents d m rows)
judged d m rows e f g h = record { discipline = e; mask = f; count = g; rows = h }

refused_short :
    (d : Contents) (places : ℕ) → Lawful d → places < 16 + 12 * length d.rows
    → Refused d places (TooShort (16 + 12 * length d.rows))
refused_short d places h l =
    let e = file_long d h in
    subst (λ n. Refused d places (TooShort n)) e (too_short h (omega arith))

-- what is written, once it is judged
pub returns-then-buffer-needed-clause-writes : goal.returns-then-buffer-needed-clause-writes
returns-then-buffer-needed-clause-writes c =
    let d = contents c.args.discipline c.args.mask c.args.rows.now in
    let h =
    judged c.args.discipline c.args.mask c.args.rows.now (search rules) c.ranges.mask.fits
    c.if-rows-gt-MOST_RECORDS.false c.in_ok-judge_rows.ensures
    in
    (refused_short d (length c.args.buffer.now) h c.if-buffer-needed.true, refl)

pub returns-clause-writes : goal.returns-clause-writes
returns-clause-writes c =
    let d = contents c.args.discipline c.args.mask c.args.rows.now in
    let h =
    judged c.args.discipline c.args.mask c.args.rows.now (search rules) c.ranges.mask.fits
    c.if-rows-gt-MOST_RECORDS.false c.in_ok-judge_rows.ensures
    in (
      h,
      sym (file_long d h),
      c.if-buffer-needed.false,
      whole_file d c.args.buffer.now _ _ _ c.header_bytes.ensures c.put.ensures c.write_records.ensures,
    )

pub returns-clause-reads_back : goal.returns-clause-reads_back
returns-clause-reads_back c =
    read_back (contents c.args.discipline c.args.mask c.args.rows.now)
    (judged c.args.discipline c.args.mask c.args.rows.now (search rules) c.ranges.mask.fits c.if-rows-gt-MOST_RECORDS.false c.in_ok-judge_rows.ensures)
