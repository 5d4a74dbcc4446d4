-- Operations that are accepted in turn, and operations that are refused next.
use Rattle.std.proofs.Common.{◌≡◌, ℕ, Bool, true, false, not, ◌&&◌, eqb, List, [], ◌∷◌, ◌++◌, map, is_some, Some, None, Option, sym, refl, subst, append_assoc, append-nil, eqb-true}
use borrow.Author.Tests.{clash}
use Rattle.std.specs.List.{AllByRecursion}
use Rattle.std.proofs.lemmas.Bool.{and_parts}
use Rattle.recording.specs.Lawful.{lawful}
use Rattle.recording.specs.declared.row.Row.{Row}
use Rattle.rules.specs.Acceptance.{Setting, refusal}
use Rattle.rules.specs.Fair.{Fair}
use Rattle.rules.specs.Numbers.{state_number}
use Rattle.rules.specs.Runs.{add, refused, Step, refuses, Run, done, next, LawfulCall}
use Rattle.rules.specs.declared.faults.StateFault.{StateFault}
use Rattle.rules.proofs.Fair.{fair_push}
use Rattle.worked.proofs.Tests.{none_from}

module _ (s : Setting) where
  -- ---- Accepted

  unfoldable pub accepts : List Row → List Row → Bool
  accepts held [] = true
  accepts held (o ∷ more) =
      let rest = accepts (held ++ o ∷ []) more in
      lawful o && (not (is_some (refusal s held o)) && rest)

  pub accepts_one :
      (held : List Row) (o : Row) (more : List Row)
      → accepts held (o ∷ more) ≡ true
      → (lawful o ≡ true) × (refusal s held o ≡ None) × (accepts (held ++ o ∷ []) more ≡ true)
  unfolding accepts
  accepts_one held o more h =
      let (w, g) = and_parts (lawful o) _ h in
      let (n, r) = and_parts (not (is_some (refusal s held o))) _ g in
      (w, none_from _ n, r)

  pub accepts_fair : (held more : List Row) → Fair s held → accepts held more ≡ true → Fair s (held ++ more)
  accepts_fair held [] fair h = subst (Fair s) (sym (append-nil held)) fair
  accepts_fair held (o ∷ more) fair h =
      let (w, n, r) = accepts_one held o more h in
      subst (Fair s) (append_assoc held (o ∷ []) more)
      (accepts_fair (held ++ o ∷ []) more (fair_push s held o fair w n) r)

  pub accepts_lawful : (held more : List Row) → accepts held more ≡ true → AllByRecursion LawfulCall (map add more)
  accepts_lawful held [] h = tt
  accepts_lawful held (o ∷ more) h =
      let (w, _, r) = accepts_one held o more h in
      (w, accepts_lawful (held ++ o ∷ []) more r)

  -- ---- Refused

  abbrev is_fault : Option StateFault → ℕ → Bool
  is_fault None n = false
  is_fault (Some f) n = eqb (state_number f) n

  fault_from :
      (r : Option StateFault) (n : ℕ) → is_fault r n ≡ true → (f : StateFault) × (r ≡ Some f) × (state_number f ≡ n)
  fault_from None n h = absurd (clash h)
  fault_from (Some f) n h = (f, refl, eqb-true _ _ h)

  module _ (held : List Row) where
    unfoldable pub refuses_all : List (Row × ℕ) → Bool
    refuses_all [] = true
    refuses_all (r ∷ more) = lawful r.0 && (is_fault (refusal s held r.0) r.1 && refuses_all more)

    refuses_one :
        (r : Row × ℕ) (more : List (Row × ℕ))
        → refuses_all (r ∷ more) ≡ true
        → (lawful r.0 ≡ true) × Step s held (add r.0) (refused r.1) held × (refuses_all more ≡ true)
    unfolding refuses_all
    refuses_one r more h =
        let (w, g) = and_parts (lawful r.0) _ h in
        let (q, rest) = and_parts (is_fault (refusal s held r.0) r.1) _ g in
        let (f, e, is) = fault_from _ r.1 q in
        (w, subst (λ n. Step s held (add r.0) (refused n) held) is (refuses e), rest)

    pub refuses_run :
        (rows : List (Row × ℕ))
        → refuses_all rows ≡ true
        → Run s held (map (λ r. add r.0) rows) (map (λ r. refused r.1) rows) held
    refuses_run [] h = done
    refuses_run (r ∷ more) h = let (_, step, rest) = refuses_one r more h in next step (refuses_run more rest)

    pub refuses_lawful : (rows : List (Row × ℕ)) → refuses_all rows ≡ true → AllByRecursion LawfulCall (map (λ r. add r.0) rows)
    refuses_lawful [] h = tt
    refuses_lawful (r ∷ more) h = let (w, _, rest) = refuses_one r more h in (w, refuses_lawful more rest)
