-- The report on the file of an example.
use Rattle.std.proofs.Common.{◌≡◌, ℕ, zero, suc, ◌+◌, ◌<◌, ◌≤◌, Bool, true, not, ◌&&◌, eqb, List, [], ◌∷◌, ◌++◌, length, take, is_some, None, Ok, sym, refl, ap, ◌∙◌, subst, ap₂, subst₂, arith, eqb-true}
use Rattle.std.proofs.lemmas.List.{take_all, take_more}
use Rattle.std.proofs.lemmas.Bool.{and_parts}
use Rattle.recording.specs.Bytes.{number_at}
use Rattle.recording.specs.Disciplines.{discipline_number, discipline_at}
use Rattle.recording.specs.Lawful.{lawful}
use Rattle.recording.specs.Masks.{bit}
use Rattle.recording.specs.Rows.{blank}
use Rattle.recording.specs.declared.discipline.DisciplineKind.{DisciplineKind}
use Rattle.recording.specs.declared.discipline.DisciplineKind.TheVariants.{FirstInFirstOut, AnyOrder, Timed}
use Rattle.recording.specs.declared.row.Row.{Row}
use Rattle.files.specs.Files.{file_fault, count_in, file_row}
use Rattle.dispatch.specs.Recorded.{admission_of, precedence_of}
use Rattle.happens_before.specs.Trace.{row}
use Rattle.rules.specs.Acceptance.{refusal}
use Rattle.rules.specs.Answers.{RaceList}
use Rattle.rules.specs.Fair.{Fair}
use Rattle.feeding.specs.Feeding.{rows_of, Feeds}
use Rattle.reporting.specs.Lines.{report_text}
use Rattle.reporting.specs.Reports.{setting_in, Reported, examined}
use Rattle.worked.proofs.Tests.{none_from}
use Rattle.worked.specs.Recordings.{Example, operations, precedence, setting, file}

-- ---- What its bytes say

abbrev same_row : Row → Row → Bool
same_row r q =
    eqb r.code q.code
    && (eqb r.thread q.thread
    && (eqb r.item q.item
    && (eqb r.target q.target
    && (eqb r.marks q.marks && (eqb r.reserved q.reserved && eqb r.delay q.delay)))))

row_from : (r q : Row) → same_row r q ≡ true → r ≡ q
row_from r q h =
    let (a, h₁) = and_parts (eqb r.code q.code) _ h in
    let (b, h₂) = and_parts (eqb r.thread q.thread) _ h₁ in
    let (c, h₃) = and_parts (eqb r.item q.item) _ h₂ in
    let (d, h₄) = and_parts (eqb r.target q.target) _ h₃ in
    let (f, h₅) = and_parts (eqb r.marks q.marks) _ h₄ in
    let (g, k) = and_parts (eqb r.reserved q.reserved) _ h₅ in
    λ t.
    record {
      code = eqb-true _ _ a t;
      thread = eqb-true _ _ b t;
      item = eqb-true _ _ c t;
      target = eqb-true _ _ d t;
      marks = eqb-true _ _ f t;
      reserved = eqb-true _ _ g t;
      delay = eqb-true _ _ k t;
    }

-- the records from n on
unfoldable pub same_rows : List ℕ → ℕ → List Row → Bool
same_rows bytes n [] = true
same_rows bytes n (r ∷ rows) = let rest = same_rows bytes (suc n) rows in same_row (file_row bytes n) r && rest

same_rows_from :
    (bytes : List ℕ) (n : ℕ) (rows : List Row)
    → same_rows bytes n rows ≡ true
    → (k : ℕ)
    → k < length rows
    → file_row bytes (n + k) ≡ row rows k
unfolding same_rows
same_rows_from bytes n [] h k u = let z : ⊥ = omega arith in absurd z
same_rows_from bytes n (r ∷ rows) h zero u =
    let (a, _) = and_parts (same_row (file_row bytes n) r) _ h in
    ap (file_row bytes) (let z : n + 0 ≡ n = omega arith in z) ∙ row_from _ r a
same_rows_from bytes n (r ∷ rows) h (suc k) u =
    let (_, b) = and_parts (same_row (file_row bytes n) r) _ h in
    ap (file_row bytes) (let z : n + suc k ≡ suc n + k = omega arith in z)
    ∙ same_rows_from bytes (suc n) rows b k (omega arith)

unfoldable pub right_file : Example → Bool
right_file e =
    let bytes = file e in
    let rows = operations e in
    not (is_some (file_fault bytes))
    && (eqb (number_at 8 8 bytes) e.mask && (eqb (count_in bytes) (length rows) && same_rows bytes 0 rows))

-- ---- So feeding it adds the operations

named : (d : DisciplineKind) → discipline_at (discipline_number d) ≡ d
named FirstInFirstOut = refl
named AnyOrder = refl
named Timed = refl

module _ (e : Example) (fair : Fair (setting e) (operations e)) (right : right_file e ≡ true) where
  rows_are : (k : ℕ) → k < length (operations e) → file_row (file e) k ≡ row (operations e) k
  unfolding right_file
  rows_are k u =
      let (_, h₁) = and_parts (not (is_some (file_fault (file e)))) _ right in
      let (_, h₂) = and_parts (eqb (number_at 8 8 (file e)) e.mask) _ h₁ in
      let (_, h₃) = and_parts (eqb (count_in (file e)) (length (operations e))) _ h₂ in
      ap (file_row (file e)) (let z : k ≡ 0 + k = omega arith in z) ∙ same_rows_from (file e) 0 (operations e) h₃ k u

  front_is : (k : ℕ) → k ≤ length (operations e) → rows_of (file e) k ≡ take k (operations e)
  unfolding rows_of
  front_is zero u = refl
  front_is (suc k) u =
      ap₂ (λ xs (x : Row). xs ++ x ∷ []) (front_is k (omega arith)) (rows_are k (omega arith))
      ∙ (sym (take_more (operations e) k blank (omega arith))
      ∙ ap (λ n. take n (operations e)) (let z : k + 1 ≡ suc k = omega arith in z))

  setting_is : setting_in (file e) ≡ setting e
  unfolding right_file
  setting_is =
      let (_, h₁) = and_parts (not (is_some (file_fault (file e)))) _ right in
      let (m, _) = and_parts (eqb (number_at 8 8 (file e)) e.mask) _ h₁ in
      λ t.
      record {
        initial = bit (eqb-true _ _ m t);
        admission = admission_of (named e.discipline t);
        precedence = precedence_of (named e.discipline t);
      }

  feeds : Feeds (setting e) (file e) [] (Ok (length (operations e))) (operations e)
  unfolding right_file
  feeds =
      let (f, h₁) = and_parts (not (is_some (file_fault (file e)))) _ right in
      let (_, h₂) = and_parts (eqb (number_at 8 8 (file e)) e.mask) _ h₁ in
      let (c, _) = and_parts (eqb (count_in (file e)) (length (operations e))) _ h₂ in (
        none_from _ f,
        sym (eqb-true _ _ c),
        λ k u.
            subst₂ (λ held o. (lawful o ≡ true) × (refusal (setting e) held o ≡ None))
            (sym (front_is k (omega arith))) (sym (rows_are k u)) (fair k u),
        sym (front_is (length (operations e)) (omega arith) ∙ take_all (length (operations e)) (operations e) (omega arith)),
      )

  pub reported :
      RaceList (precedence e) (operations e) e.races
      → Reported (file e) (report_text (length (operations e)) e.races) true
  reported races =
      examined (length (operations e)) (operations e) e.races
      (subst (λ s. Feeds s (file e) [] (Ok (length (operations e))) (operations e)) (sym setting_is) feeds)
      (subst (λ s. RaceList s.precedence (operations e) e.races) (sym setting_is) races)
