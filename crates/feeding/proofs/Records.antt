-- Taking the records of a file one by one.
use Rattle.std.proofs.Common.{◌≡◌, ℕ, suc, ◌+◌, ◌*◌, ◌<◌, ◌≤◌, Bool, true, List, [], ◌∷◌, ◌++◌, length, take, drop, Some, None, Err, sym, ap, ◌∙◌, subst, ap₂, ⊎_elim, append_assoc, arith}
use Rattle.std.proofs.lemmas.List.{drop-drop, length-drop}
use Rattle.std.proofs.lemmas.Grind.{common_steps}
use Rattle.std.proofs.lemmas.Bool.{cases_lt}
use Rattle.recording.specs.Lawful.{lawful, fault_in}
use Rattle.recording.specs.Records.{row_in}
use Rattle.recording.specs.declared.marks.Marks.{Marks}
use Rattle.recording.specs.declared.row.Row.{Row}
use Rattle.files.specs.Files.{file_fault, count_in, file_row}
use Rattle.files.proofs.LawfulFiles.{long}
use Rattle.rules.specs.Acceptance.{Setting, opened, refusal}
use Rattle.examination.specs.Holding.{Holding, setting_of, SameSetting}
use Rattle.feeding.specs.Feeding.{rows_of, Taken, Takes, Feeds}
use Rattle.feeding.specs.declared.fault.FeedFault.{FeedFault}
use Rattle.feeding.specs.declared.fault.FeedFault.TheVariants.{File, Record, State}

pub same_setting :
    {D : Type 0} (admission : D → Marks → Bool) (precedence : D → Marks → Marks → Bool) (e f : Holding D) → SameSetting e f
    → setting_of admission precedence f ≡ setting_of admission precedence e
same_setting admission precedence e f q =
    ap₂ (λ d m. opened (admission d) (precedence d) m) q.0 q.1

rows_next : (file : List ℕ) (n : ℕ) → rows_of file (n + 1) ≡ rows_of file n ++ file_row file n ∷ []
unfolding rows_of
rows_next file n = let q : n + 1 ≡ suc n = omega arith in ap (rows_of file) q

pub no_rows : (file : List ℕ) (n : ℕ) → n ≡ 0 → rows_of file n ≡ []
unfolding rows_of
no_rows file n e = ap (rows_of file) e

pub row_is :
    (file records part : List ℕ) (n : ℕ) → records ≡ drop 16 file → part ≡ take 12 (drop (12 * n) records) → row_in part ≡ file_row file n
row_is file records part n e p =
    ap row_in (p ∙ (ap (λ b. take 12 (drop (12 * n) b)) e ∙ ap (take 12) (drop-drop (12 * n) 16 file)))

module _ (file records : List ℕ) (n : ℕ) (fine : file_fault file ≡ None) (source : records ≡ drop 16 file) where
  pub inside : 12 * (n + 1) ≤ length records → n < count_in file
  inside l = let a = ap length source in let b = length-drop 16 file in let d = long file fine in omega arith

  pub at_end : length records < 12 * (n + 1) → 12 * n ≤ length records → n ≡ count_in file
  at_end l u = let a = ap length source in let b = length-drop 16 file in let d = long file fine in omega arith

module _
    (s s' : Setting) (file : List ℕ) (held h h' : List Row) (n : ℕ) (o : Row)
    (same : s' ≡ s)
    (so_far : h ≡ held ++ rows_of file n)
    (taken : Taken s file held n)
    (here : o ≡ file_row file n)
  where
    refusal_here : {x : _} → refusal s' h o ≡ x → refusal s (held ++ rows_of file n) (file_row file n) ≡ x
    refusal_here {x} r =
        subst (λ t. refusal t (held ++ rows_of file n) (file_row file n) ≡ x) same
        (subst (λ y. refusal s' y (file_row file n) ≡ x) so_far (subst (λ y. refusal s' h y ≡ x) here r))

    pub held_next : (n' : ℕ) → n' ≡ n + 1 → h' ≡ h ++ o ∷ [] → h' ≡ held ++ rows_of file n'
    held_next n' e w = let r = rows_next file n in grind (arith, append_assoc, common_steps)

    pub taken_next : (n' : ℕ) → n' ≡ n + 1 → lawful o ≡ true → refusal s' h o ≡ None → Taken s file held n'
    taken_next n' e w r k l =
        ⊎_elim
        (λ (lt : k < n). taken k lt)
        (λ (ge : n ≤ k).
        let q : n ≡ k = omega arith in
        subst (λ x. (lawful (file_row file x) ≡ true) × (refusal s (held ++ rows_of file x) (file_row file x) ≡ None)) q
        (subst (λ x. lawful x ≡ true) here w, refusal_here r))
        (cases_lt k n)

    pub stopped :
        (m : ℕ) (f : FeedFault) → m ≡ n → file_fault file ≡ None → n < count_in file → Takes s' h m o (Err f) h' → Feeds s file held (Err f) h'
    stopped m (File f) e fine l t = absurd t
    stopped m (Record at) e fine l t =
        let q : n ≡ at.number = sym (t.0 ∙ e) in (
          fine,
          omega arith,
          subst (Taken s file held) q taken,
          subst (λ k. fault_in (file_row file k) ≡ Some at.fault) q (subst (λ y. fault_in y ≡ Some at.fault) here t.1),
          subst (λ k. h' ≡ held ++ rows_of file k) q (t.2 ∙ so_far),
        )
    stopped m (State at) e fine l t =
        let q : n ≡ at.number = sym (t.0 ∙ e) in (
          fine,
          omega arith,
          subst (Taken s file held) q taken,
          subst (λ k. lawful (file_row file k) ≡ true) q (subst (λ y. lawful y ≡ true) here t.1),
          subst (λ k. refusal s (held ++ rows_of file k) (file_row file k) ≡ Some at.fault) q (refusal_here t.2),
          subst (λ k. h' ≡ held ++ rows_of file k) q (t.3 ∙ so_far),
        )
