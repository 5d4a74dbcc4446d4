-- A column to which the rules add in turn.
use Rattle.std.proofs.Common.{◌≡◌, ℕ, ◌<◌, Bool, true, ◌&&◌, ◌||◌, ltb, ◌⊎◌, ◌↔◌, List, length, take, sym, refl, ◌∙◌, subst, inl, inr, ⊎_elim, arith, ltb-true, lt-ltb}
use Rattle.std.proofs.lemmas.Bool.{and_parts, and_from, or_cases, or_left, or_right}
use Rattle.recording.specs.Codes.{begin}
use Rattle.recording.specs.declared.action.Action.{Action}
use Rattle.recording.specs.declared.action.Action.TheVariants.{
  ThreadInit,
  ThreadExit,
  Fork,
  Join,
  AttachQ,
  LoopOnQ,
  Post,
  Begin,
  End,
  Acquire,
  Release,
  Enable,
  Read,
  Write,
}
use Rattle.recording.specs.declared.row.Row.{Row}
use Rattle.recording.specs.Rows.{row_of}
use Rattle.happens_before.specs.Trace.{row, Posts}
use Rattle.happens_before.specs.Order.{Precedence, Pairs}
use Rattle.happens_before.proofs.Posted.{post_held}
use Rattle.index.specs.Given.{kindly}
use Rattle.index.specs.Indexed.{member_at, unlooped_at}
use Rattle.ordering.specs.Directly.{BegunAfter, TaskBefore, Directly}
use Rattle.ordering.specs.Directly.Directly.{by_program, by_task, by_kind, by_post, by_handover}

-- an action with the code of begin is one
pub only_begin : (t : ℕ) (a : Action) → (row_of t a).code ≡ begin → ((p : _) → a ≡ Begin p → ⊥) → ⊥
only_begin t ThreadInit e n = let q : ◌≡◌ {A = ℕ} 1 8 = e in omega arith
only_begin t ThreadExit e n = let q : ◌≡◌ {A = ℕ} 2 8 = e in omega arith
only_begin t (Fork u) e n = let q : ◌≡◌ {A = ℕ} 3 8 = e in omega arith
only_begin t (Join u) e n = let q : ◌≡◌ {A = ℕ} 4 8 = e in omega arith
only_begin t AttachQ e n = let q : ◌≡◌ {A = ℕ} 5 8 = e in omega arith
only_begin t LoopOnQ e n = let q : ◌≡◌ {A = ℕ} 6 8 = e in omega arith
only_begin t (Post p u m) e n = let q : ◌≡◌ {A = ℕ} 7 8 = e in omega arith
only_begin t (Begin p) e n = n p refl
only_begin t (End p) e n = let q : ◌≡◌ {A = ℕ} 9 8 = e in omega arith
only_begin t (Acquire k) e n = let q : ◌≡◌ {A = ℕ} 10 8 = e in omega arith
only_begin t (Release k) e n = let q : ◌≡◌ {A = ℕ} 11 8 = e in omega arith
only_begin t (Enable p) e n = let q : ◌≡◌ {A = ℕ} 12 8 = e in omega arith
only_begin t (Read x) e n = let q : ◌≡◌ {A = ℕ} 13 8 = e in omega arith
only_begin t (Write x) e n = let q : ◌≡◌ {A = ℕ} 14 8 = e in omega arith

module _
    (D : Precedence) (R : Pairs) (held : List Row) (o : Row) (i : ℕ) (test : ℕ → Bool) (first second third : Bool)
    (by_first : first ≡ (ltb i (length held) && unlooped_at (take i held) o.thread (row held i)))
    (by-second : (second ≡ true) ↔ ((first ≡ true) ⊎ TaskBefore held test i))
    (tests : (p : ℕ) → test p ≡ member_at held p o)
    (by-third : third ≡ (second || (ltb i (length held) && kindly (row held i) o)))
  where
    sound : third ≡ true → (i < length held) × Directly D R held o i
    sound e =
        ⊎_elim
        (λ h.
        ⊎_elim
        (λ h. let (l, u) = and_parts (ltb i (length held)) _ (sym by_first ∙ h) in (ltb-true _ _ l, by_program u))
        (λ h. (h.0, by_task h.1.0 (sym (tests h.1.0) ∙ h.1.1) h.1.2))
        (by-second.0 h))
        (λ h. let (l, k) = and_parts (ltb i (length held)) _ h in (ltb-true _ _ l, by_kind k))
        (or_cases second _ (sym by-third ∙ e))

    program_in : i < length held → unlooped_at (take i held) o.thread (row held i) ≡ true → third ≡ true
    program_in l h =
        by-third ∙ or_left second _ (by-second.1 (inl (by_first ∙ and_from (ltb i (length held)) _ (lt-ltb _ _ l) h)))

    task_in : i < length held → (p : ℕ) → member_at held p o ≡ true → member_at (take i held) p (row held i) ≡ true → third ≡ true
    task_in l p h m = by-third ∙ or_left second _ (by-second.1 (inr (l, (p, tests p ∙ h, m))))

    kind_in : i < length held → kindly (row held i) o ≡ true → third ≡ true
    kind_in l k = by-third ∙ or_right second _ (and_from (ltb i (length held)) _ (lt-ltb _ _ l) k)

    pub no_begin : (o.code ≡ begin → ⊥) → (third ≡ true) ↔ ((i < length held) × Directly D R held o i)
    no_begin n = (sound, λ h. full h.0 h.1)
      where
        full : i < length held → Directly D R held o i → third ≡ true
        full l (by_program h) = program_in l h
        full l (by_task p h m) = task_in l p h m
        full l (by_kind k) = kind_in l k
        full l (by_post c p) = absurd (n c)
        full l (by_handover b c p e t h) = absurd (n c)

    pub with_begin :
        (fourth : Bool) → o.code ≡ begin
        → (fourth ≡ true) ↔ ((third ≡ true) ⊎ BegunAfter D R held o.thread o.item i)
        → (fourth ≡ true) ↔ ((i < length held) × Directly D R held o i)
    with_begin fourth c by-fourth = (λ e. ⊎_elim sound begun (by-fourth.0 e), λ h. by-fourth.1 (full h.0 h.1))
      where
        begun : BegunAfter D R held o.thread o.item i → (i < length held) × Directly D R held o i
        begun (b, p, inl q) =
            let here = subst (λ k. Posts held k o.item) (sym q) p in
            (post_held held i o.item here, by_post c here)
        begun (b, p, inr (l, (e, t, h))) = (l, by_handover b c p e t h)

        full : i < length held → Directly D R held o i → (third ≡ true) ⊎ BegunAfter D R held o.thread o.item i
        full l (by_program h) = inl (program_in l h)
        full l (by_task p h m) = inl (task_in l p h m)
        full l (by_kind k) = inl (kind_in l k)
        full l (by_post c p) = inr (i, p, inl refl)
        full l (by_handover b c p e t h) = inr (b, p, inr (l, (e, t, h)))
