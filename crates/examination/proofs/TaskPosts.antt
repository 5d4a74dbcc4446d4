-- The post of the task that a new operation belongs to.
use Rattle.std.proofs.Common.{◌≡◌, ℕ, ◌<◌, Bool, true, false, cond, eqb, ltb, ◌↔◌, List, [], ◌∷◌, ◌++◌, length, take, Some, None, Option, sym, refl, ap, ◌∙◌, subst, arith, length-append, eq-eqb, eqb-true}
use borrow.Author.Tests.{clash}
use Rattle.std.proofs.lemmas.List.{take_at}
use Rattle.recording.specs.Codes.{has_task}
use Rattle.recording.specs.declared.row.Row.{Row}
use Rattle.happens_before.specs.Race.{TaskPost}
use Rattle.happens_before.specs.Trace.{row, Belongs, Posts}
use Rattle.rules.specs.Fair.{FairTables}
use Rattle.rules.specs.Options.{is_of}
use Rattle.rules.proofs.Fair.{begin_posted, one_post, all_in_range}
use Rattle.tables.specs.Matches.{Matches}
use Rattle.tables.specs.Records.{task_at}
use Rattle.tables.specs.declared.tables.Tables.{Tables}
use Rattle.tables.specs.declared.tasks.Posting.{Posting}
use Rattle.index.specs.Indexed.{member_at}
use Rattle.index.proofs.Kept.{row_earlier, row_newest}
use Rattle.ordering.proofs.Members.{member_sound, member_full}
use Rattle.examination.proofs.Asked.{posted_here, posted_nowhere_else, unposted}

module _
    (initial : ℕ → Bool) (held : List Row) (o : Row) (tables : Tables) (task : Option ℕ)
    (matches : Matches initial held tables)
    (fair : FairTables initial (held ++ o ∷ []))
    (tasks : (p : ℕ) → is_of task p ≡ member_at held p o)
  where
    abbrev T : List Row
    T = held ++ o ∷ []

    inside : length held < length (held ++ o ∷ [])
    inside = let e = length-append held (o ∷ []) in omega arith

    same_member : (p : ℕ) → member_at held p o ≡ member_at (take (length held) (held ++ o ∷ [])) p (row (held ++ o ∷ []) (length held))
    same_member p =
        λ t. member_at (sym (take_at held (o ∷ []) (length held) refl) t) p (sym (row_newest held o (length held) refl) t)

    belongs : (p : ℕ) → is_of task p ≡ true → Belongs T (length held) p
    belongs p e = member_sound T (length held) p inside (sym (tasks p ∙ same_member p) ∙ e)

    is_task : (p : ℕ) → Belongs T (length held) p → is_of task p ≡ true
    is_task p b = (tasks p ∙ same_member p) ∙ member_full T (length held) p inside b

    small : (p : ℕ) → Belongs T (length held) p → p < 512
    small p b =
        let l = b.1 in
        let i = inside in
        subst (λ q. q < 512) b.2.2 ((all_in_range initial T fair b.0 (omega arith)).2 (ap has_task b.2.0))

    -- the post of a task that has begun is held
    earlier_post : (p a : ℕ) → Belongs T (length held) p → Posts T a p → Posts held a p
    earlier_post p a b h =
        let r = begin_posted initial T fair b.0 b.2.0 in
        let u = r.1 in
        let v = b.1 in
        let q = one_post initial T fair r.0 a p (subst (Posts T r.0) b.2.2 r.2) h in
        let at = row_earlier held o a (omega arith) in
        (sym (λ t. (at t).code) ∙ h.0, sym (λ t. (at t).item) ∙ h.1)

    pub found :
        (p : ℕ) (x : Posting) → task ≡ Some p → cond (ltb p 512) (task_at tables.tasks p).posting None ≡ Some x
        → (a : ℕ) → (eqb x.position a ≡ true) ↔ TaskPost T (length held) a
    found p x e f a =
        let l = small p (belongs p (ap (λ q. is_of q p) e ∙ eq-eqb p p refl)) in
        let at = posted_here initial held tables matches p l x f in (
          λ h.
              let q : x.position ≡ a = eqb-true _ _ h in
              let r = row_earlier held o x.position at.0 in
              (p, belongs p (ap (λ q. is_of q p) e ∙ eq-eqb p p refl), subst (λ k. Posts T k p) q ((λ t. (r t).code) ∙ at.1.0, (λ t. (r t).item) ∙ at.1.1)),
          λ h.
              let same : p ≡ h.0 = eqb-true p h.0 (sym (ap (λ q. is_of q h.0) e) ∙ is_task h.0 h.1) in
              eq-eqb _ _ (posted_nowhere_else initial held tables matches p l x f a (subst (Posts held a) (sym same) (earlier_post h.0 a h.1 h.2))),
        )

    pub not_found :
        (p : ℕ) → task ≡ Some p → cond (ltb p 512) (task_at tables.tasks p).posting None ≡ None
        → (a : ℕ) → (false ≡ true) ↔ TaskPost T (length held) a
    not_found p e f a =
        let l = small p (belongs p (ap (λ q. is_of q p) e ∙ eq-eqb p p refl)) in (
          λ h. absurd (clash h),
          λ h.
              let same : p ≡ h.0 = eqb-true p h.0 (sym (ap (λ q. is_of q h.0) e) ∙ is_task h.0 h.1) in
              absurd
              (unposted initial held tables matches p l f a (subst (Posts held a) (sym same) (earlier_post h.0 a h.1 h.2))),
        )

    pub no_task : task ≡ None → (a : ℕ) → (false ≡ true) ↔ TaskPost T (length held) a
    no_task e a = (λ h. absurd (clash h), λ h. sym (ap (λ q. is_of q h.0) e) ∙ is_task h.0 h.1)
