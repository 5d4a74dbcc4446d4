-- A recording that is held: no row is refused, and it is written whole.
use Rattle.std.proofs.Common.{◌≡◌, ℕ, ◌+◌, ◌*◌, ◌<◌, ◌≤◌, true, List, ◌++◌, length, take, drop, is_some, Some, Ok, Err, Result, MatchResult, MatchOption, Vec, sym, ap, ◌∙◌, arith}
use borrow.Author.Tests.{clash}
use Rattle.std.proofs.lemmas.List.{append-nil, drop_all, with_items_is}
use Rattle.std.specs.declared.alloc.Global.{Global}
use Rattle.recording.specs.declared.faults.record.RecordFault.{RecordFault}
use Rattle.contents.specs.declared.faults.write.WriteFault.{WriteFault}
use Rattle.recording.specs.declared.row.Row.{Row}
use Rattle.files.specs.Files.{Contents, Lawful, file_of}
use Rattle.recording.specs.Rows.{operation_row, row_at}
use Rattle.recording.specs.declared.operation.Operation.{Operation}
use Rattle.std.specs.Result.{result_ok}
use Rattle.recording.specs.Lawful.{lawful, fault_in}
use Rattle.contents.specs.Writing.{Refused}
use Rattle.contents.specs.Writing.Refused.{no_discipline, too_many, unlawful_row, too_short}
use Rattle.recording.proofs.LawfulRows.{faultless}
use Rattle.contents.proofs.ReadBack.{file_long}

pub no_fault : (r : Row) (f : RecordFault) → lawful r ≡ true → fault_in r ≡ Some f → ⊥
no_fault r f h e = clash (ap (is_some {T = RecordFault}) (sym (faultless r h) ∙ e))

-- the operation made of the row at a position, which is lawful
pub made :
    (answer : Result Operation RecordFault) (rows : List Row) (count k : ℕ) (row : Row) → k < count → row ≡ row_at rows k → lawful (row_at rows k) ≡ true
    → MatchResult answer (λ o. (lawful row ≡ true) × (operation_row o ≡ row)) (λ f. fault_in row ≡ Some f)
    → MatchOption (result_ok answer) (count ≤ k) (λ o. (k < count) × (operation_row o ≡ row_at rows k))
made (Ok o) rows count k row l e h m = (l, m.1 ∙ e)
made (Err f) rows count k row l e h m = absurd (no_fault row f (ap lawful e ∙ h) m)

module _
    (c : Contents) (d : c.discipline ≤ 2) (few : length c.rows ≤ 512)
    (rows : (k : ℕ) → k < length c.rows → lawful (row_at c.rows k) ≡ true)
  where
    pub not_refused : (places : ℕ) (f : WriteFault) → 16 + 12 * length c.rows ≤ places → Refused c places f → ⊥
    not_refused places f room (no_discipline l) = omega arith
    not_refused places f room (too_many l m) = omega arith
    not_refused places f room (unlawful_row {n = n} {f = g} l m u) =
        no_fault (row_at c.rows n) g (rows n u.inside) u.here
    not_refused places f room (too_short l m) = let e = file_long c l in omega arith

-- nothing is left over in a buffer of the right length
pub written_whole :
    (c : Contents) → Lawful c → (bytes : Vec ℕ Global) (n : ℕ) (before after : List ℕ) → bytes.len ≡ 16 + 12 * length c.rows
    → length before ≡ bytes.len → n ≡ length (file_of c) → after ≡ file_of c ++ drop n before
    → take bytes.len (after ++ drop (length after) bytes.items) ≡ file_of c
written_whole c h bytes n before after long same is e =
    let file = file_long c h in
    let rest : length before ≤ n = omega arith in
    let whole : after ≡ file_of c = e ∙ (ap (λ b. file_of c ++ b) (drop_all n before rest) ∙ append-nil (file_of c)) in
    let fits : length after ≡ bytes.len = ap length whole ∙ omega arith in
    with_items_is bytes after fits ∙ whole
