-- What the rules give of a new operation, as tests of the operations held.
use Rattle.std.proofs.lemmas.Bool.Decides.{Decides-eqb, Decides-and, Decides-or, Decides-not, Decides-like}
use Rattle.std.specs.Bool.{Decides}
use Rattle.std.proofs.Common.{◌≡◌, ℕ, ◌<◌, Bool, true, ◌&&◌, ◌⊎◌, eqb, List, [], ◌∷◌, ◌++◌, length, take, sym, refl, ap, ◌∙◌, subst, ap₂, inl, inr, ⊎_elim, arith, length-append, eq-eqb, eqb-true}
use borrow.Author.Tests.{not-true, both_ways}
use Rattle.std.proofs.lemmas.Bool.{cases_Bool, and_parts, and_from, not_from_false}
use Rattle.std.proofs.lemmas.List.{take_at}
use Rattle.recording.specs.Codes.{threadinit, threadexit, fork, join, attach_q, loop_on_q, post, begin, end, acquire, release, enable}
use Rattle.recording.specs.declared.row.Row.{Row}
use Rattle.happens_before.specs.Trace.{row, code, thread, item, marks, Belongs, Posts}
use Rattle.happens_before.specs.Order.{Precedence, Pairs, ProgramOrder, TaskOrder, AttachOrder, EnableOrder, ForkOrder, JoinOrder, LockOrder, Handover}
use Rattle.happens_before.proofs.Rules.{Base}
use Rattle.happens_before.proofs.Rules.Base.{
  program_order,
  task_order,
  attach_order,
  enable_order,
  post_order,
  fork_order,
  join_order,
  lock_order,
  queue_order,
  run_to_completion,
}
use Rattle.rules.specs.Acceptance.{does, loops}
use Rattle.rules.proofs.Places.{some_before, found_before}
use Rattle.index.specs.Given.{kindly}
use Rattle.index.specs.Indexed.{member_at, unlooped_at}
use Rattle.index.proofs.Kept.{row_earlier, row_newest, take_earlier}
use Rattle.happens_before.proofs.Posted.{post_held}
use Rattle.recording.specs.Posts.{marks_in}
use Rattle.ordering.specs.Directly.{Directly}
use Rattle.ordering.specs.Directly.Directly.{by_program, by_task, by_kind, by_post, by_handover}
use Rattle.ordering.proofs.Members.{member_sound, member_full}

-- ---- attach, enable, fork, join and lock order, as tests of two rows
module _ (trace : List Row) (i j : ℕ) where
  abbrev Kindly : Type 0
  Kindly =
      AttachOrder trace i j
      ⊎ (EnableOrder trace i j ⊎ (ForkOrder trace i j ⊎ (JoinOrder trace i j ⊎ LockOrder trace i j)))

  both : (m n x y : ℕ) → Decides (eqb m n && eqb x y) ((m ≡ n) × (x ≡ y))
  both m n x y = Decides-and _ _ (Decides-eqb m n) (Decides-eqb x y)

  kindly_is : Decides (kindly (row trace i) (row trace j)) Kindly
  kindly_is =
      let a : Row = row trace i in
      let o : Row = row trace j in
      Decides-or _ _
      (Decides-like _
      (λ (p, ((c, t), n)). (c, p, sym t, λ q. n (sym t ∙ sym q)))
      (λ (c, p, t, n). (p, ((c, sym t), λ q. n (sym q ∙ t))))
      (Decides-and _ _ (Decides-eqb o.code post)
      (Decides-and _ _ (both a.code attach_q a.thread o.target) (Decides-not _ (Decides-eqb o.target o.thread)))))
      (Decides-or _ _
      (swapped (Decides-eqb o.code post) (both a.code enable a.item o.item))
      (Decides-or _ _
      (swapped (Decides-eqb o.code threadinit) (both a.code fork a.target o.thread))
      (Decides-or _ _
      (swapped (Decides-eqb o.code join) (both a.code threadexit a.thread o.target))
      (Decides-like _
      (λ (q, ((c, t), n)). (c, q, t, n))
      (λ (c, q, t, n). (q, ((c, t), n)))
      (Decides-and _ _ (Decides-eqb o.code acquire)
      (Decides-and _ _ (both a.code release a.item o.item) (Decides-not _ (Decides-eqb a.thread o.thread))))))))
    where
      swapped : {x y : Bool} {P Q S : Type 0} → Decides x P → Decides y (Q × S) → Decides (x && y) (Q × P × S)
      swapped d e = Decides-like _ (λ (p, (q, s)). (q, p, s)) (λ (q, p, s). (p, (q, s))) (Decides-and _ _ d e)

module _ (held : List Row) (o : Row) where
  newest_held : length held < length (held ++ o ∷ [])
  newest_held = let e = length-append held (o ∷ []) in omega arith

  at_newest : row (held ++ o ∷ []) (length held) ≡ o
  at_newest = row_newest held o (length held) refl

  module _ (i : ℕ) (l : i < length held) where
    at : row (held ++ o ∷ []) i ≡ row held i
    at = row_earlier held o i l

    -- ---- program order
    program_sound : unlooped_at (take i held) o.thread (row held i) ≡ true → ProgramOrder (held ++ o ∷ []) i (length held)
    program_sound h =
        let (e, f) = and_parts (eqb (row held i).thread o.thread) _ h in (
          ap (λ r. r.thread) at ∙ (eqb-true _ _ e ∙ sym (ap (λ r. r.thread) at_newest)),
          λ k ki c t.
              let at-k = row_earlier held o k (omega arith) in
              let c' = sym (ap (λ r. r.code) at-k) ∙ c in
              let t' = sym (ap (λ r. r.thread) at-k) ∙ (t ∙ (ap (λ r. r.thread) at ∙ eqb-true _ _ e)) in
              both_ways _ (not-true _ f)
              (some_before held i (does loop_on_q o.thread) k ki (omega arith) (and_from _ _ (eq-eqb _ _ c') (eq-eqb _ _ t'))),
        )

    program_full : ProgramOrder (held ++ o ∷ []) i (length held) → unlooped_at (take i held) o.thread (row held i) ≡ true
    program_full (t, n) =
        let e = sym (ap (λ r. r.thread) at) ∙ (t ∙ ap (λ r. r.thread) at_newest) in
        and_from (eqb (row held i).thread o.thread) _ (eq-eqb _ _ e)
        (not_from_false _
        (⊎_elim
        (λ (h : loops (take i held) o.thread ≡ true).
        let r = found_before held i (does loop_on_q o.thread) h in
        let k = r.0 in
        let at-k = row_earlier held o k r.2 in
        let (c, u) = and_parts (eqb (code held k) loop_on_q) _ r.3 in
        absurd
        (n k r.1 (ap (λ r. r.code) at-k ∙ eqb-true _ _ c)
        (ap (λ r. r.thread) at-k ∙ (eqb-true _ _ u ∙ sym (ap (λ r. r.thread) at ∙ e)))))
        (λ q. q)
        (cases_Bool (loops (take i held) o.thread))))

    -- ---- task order
    earlier_member : (p : ℕ) → member_at (take i held) p (row held i) ≡ member_at (take i (held ++ o ∷ [])) p (row (held ++ o ∷ []) i)
    earlier_member p = λ t. member_at (sym (take_earlier held o i (omega arith)) t) p (sym at t)

    newest_member : (p : ℕ) → member_at held p o ≡ member_at (take (length held) (held ++ o ∷ [])) p (row (held ++ o ∷ []) (length held))
    newest_member p = λ t. member_at (sym (take_at held (o ∷ []) (length held) refl) t) p (sym at_newest t)

    pub belongs_sound : (p : ℕ) → member_at (take i held) p (row held i) ≡ true → Belongs (held ++ o ∷ []) i p
    belongs_sound p h = let n = newest_held in member_sound (held ++ o ∷ []) i p (omega arith) (sym (earlier_member p) ∙ h)

    pub belongs_full : (p : ℕ) → Belongs (held ++ o ∷ []) i p → member_at (take i held) p (row held i) ≡ true
    belongs_full p b = let n = newest_held in earlier_member p ∙ member_full (held ++ o ∷ []) i p (omega arith) b

    task_sound : (p : ℕ) → member_at held p o ≡ true → member_at (take i held) p (row held i) ≡ true → TaskOrder (held ++ o ∷ []) i (length held)
    task_sound p h g =
        (p, belongs_sound p g, member_sound (held ++ o ∷ []) (length held) p newest_held (sym (newest_member p) ∙ h))

    task_full :
        TaskOrder (held ++ o ∷ []) i (length held)
        → (p : ℕ) × (member_at held p o ≡ true) × (member_at (take i held) p (row held i) ≡ true)
    task_full (p, b, c) =
        (p, newest_member p ∙ member_full (held ++ o ∷ []) (length held) p newest_held c, belongs_full p b)

    kindly_at : kindly (row (held ++ o ∷ []) i) (row (held ++ o ∷ []) (length held)) ≡ kindly (row held i) o
    kindly_at = ap₂ kindly at at_newest

    kindly_full : Kindly (held ++ o ∷ []) i (length held) → kindly (row held i) o ≡ true
    kindly_full h = sym kindly_at ∙ (kindly_is (held ++ o ∷ []) i (length held)).1 h

    module _ (D : Precedence) (R : Pairs) where
      kindly_sound : kindly (row held i) o ≡ true → Base D (held ++ o ∷ []) R i (length held)
      kindly_sound h =
          ⊎_elim attach_order
          (⊎_elim enable_order (⊎_elim fork_order (⊎_elim join_order lock_order)))
          ((kindly_is (held ++ o ∷ []) i (length held)).0 (kindly_at ∙ h))

      i_code : {c : ℕ} → code (held ++ o ∷ []) i ≡ c → (row held i).code ≡ c
      i_code e = sym (λ t. (at t).code) ∙ e

      n_code : {c : ℕ} → code (held ++ o ∷ []) (length held) ≡ c → o.code ≡ c
      n_code e = sym (λ t. (at_newest t).code) ∙ e

      -- ---- post order, queue order and run to completion
      n_item : item (held ++ o ∷ []) (length held) ≡ o.item
      n_item = λ t. (at_newest t).item

      posts_up : (a p : ℕ) → a < length held → Posts held a p → Posts (held ++ o ∷ []) a p
      posts_up a p u (c, d) =
          let e = row_earlier held o a u in
          ((λ t. (e t).code) ∙ c, (λ t. (e t).item) ∙ d)

      posts_down : (a p : ℕ) → a < length held → Posts (held ++ o ∷ []) a p → Posts held a p
      posts_down a p u (c, d) =
          let e = row_earlier held o a u in
          (sym (λ t. (e t).code) ∙ c, sym (λ t. (e t).item) ∙ d)

module _ (D : Precedence) (R : Pairs) (held : List Row) (o : Row) (i : ℕ) (l : i < length held) where
  item_i : item (held ++ o ∷ []) i ≡ item held i
  item_i = λ t. (row_earlier held o i l t).item

  marks_at : (a : ℕ) → a < length held → marks (held ++ o ∷ []) a ≡ marks held a
  marks_at a u = ap marks_in (row_earlier held o a u)

  handover : o.code ≡ begin → code held i ≡ end → thread held i ≡ o.thread → Handover (held ++ o ∷ []) i (length held)
  handover b e t =
      let at_i = row_earlier held o i l in
      let at_n = row_newest held o (length held) refl in (
        (λ x. (at_i x).code) ∙ e,
        (λ x. (at_n x).code) ∙ b,
        (λ x. (at_i x).thread) ∙ (t ∙ sym (λ x. (at_n x).thread)),
      )

  later_posts : (b : ℕ) → Posts held b o.item → Posts (held ++ o ∷ []) b (item (held ++ o ∷ []) (length held))
  later_posts b p =
      subst (Posts (held ++ o ∷ []) b) (sym (n_item held o i l D R))
      (posts_up held o i l D R b o.item (post_held held b o.item p) p)

  same_thread : thread (held ++ o ∷ []) i ≡ thread (held ++ o ∷ []) (length held) → thread held i ≡ o.thread
  same_thread t =
      sym (λ x. (row_earlier held o i l x).thread) ∙ (t ∙ (λ x. (row_newest held o (length held) refl x).thread))

  pub directly_sound : Directly D R held o i → Base D (held ++ o ∷ []) R i (length held)
  directly_sound (by_program h) = program_order (program_sound held o i l h)
  directly_sound (by_task p h g) = task_order (task_sound held o i l p h g)
  directly_sound (by_kind h) = kindly_sound held o i l D R h
  directly_sound (by_post c (d, e)) =
      let at_i = row_earlier held o i l in
      let at_n = row_newest held o (length held) refl in
      post_order
      ((λ t. (at_i t).code) ∙ d, (λ t. (at_n t).code) ∙ c, (λ t. (at_i t).item) ∙ (e ∙ sym (λ t. (at_n t).item)))
  directly_sound (by_handover b c p e t (inl (a, an, q, r, d))) =
      let bn = post_held held b o.item p in
      queue_order (
        handover c e t,
        (
          a,
          b,
          an,
          bn,
          posts_up held o i l D R a (item (held ++ o ∷ []) i) an (subst (Posts held a) (sym item_i) q),
          later_posts b p,
          r,
          (λ x. D (marks_at a an x) (marks_at b bn x)) ∙ d,
        ),
      )
  directly_sound (by_handover b c p e t (inr (k, kn, m, r))) =
      let bn = post_held held b o.item p in
      run_to_completion (
        handover c e t,
        (
          k,
          b,
          kn,
          bn,
          subst (Belongs (held ++ o ∷ []) k) (sym item_i) (belongs_sound held o k kn (item held i) m),
          later_posts b p,
          r,
        ),
      )

  pub directly_full : Base D (held ++ o ∷ []) R i (length held) → Directly D R held o i
  directly_full (program_order h) = by_program (program_full held o i l h)
  directly_full (task_order h) = let r = task_full held o i l h in by_task r.0 r.1 r.2
  directly_full (attach_order h) = by_kind (kindly_full held o i l (inl h))
  directly_full (enable_order h) = by_kind (kindly_full held o i l (inr (inl h)))
  directly_full (post_order (a, b, c)) =
      by_post (n_code held o i l D R b) (posts_down held o i l D R i o.item l (a, c ∙ n_item held o i l D R))
  directly_full (fork_order h) = by_kind (kindly_full held o i l (inr (inr (inl h))))
  directly_full (join_order h) = by_kind (kindly_full held o i l (inr (inr (inr (inl h)))))
  directly_full (lock_order h) = by_kind (kindly_full held o i l (inr (inr (inr (inr h)))))
  directly_full (queue_order ((e, c, t), (a, b, an, bn, q, p, r, d))) =
      by_handover b (n_code held o i l D R c)
      (posts_down held o i l D R b o.item bn (subst (Posts (held ++ o ∷ []) b) (n_item held o i l D R) p))
      (i_code held o i l D R e) (same_thread t)
      (inl (
        a,
        an,
        posts_down held o i l D R a (item held i) an (subst (Posts (held ++ o ∷ []) a) item_i q),
        r,
        sym (λ x. D (marks_at a an x) (marks_at b bn x)) ∙ d,
      ))
  directly_full (run_to_completion ((e, c, t), (k, b, kn, bn, m, p, r))) =
      by_handover b (n_code held o i l D R c)
      (posts_down held o i l D R b o.item bn (subst (Posts (held ++ o ∷ []) b) (n_item held o i l D R) p))
      (i_code held o i l D R e) (same_thread t)
      (inr (k, kn, belongs_full held o k kn (item held i) (subst (Belongs (held ++ o ∷ []) k) item_i m), r))
