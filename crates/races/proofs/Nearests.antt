-- The nearest posts of an added position, and what additions and cuts leave as it was.
use Rattle.std.proofs.Common.{◌≡◌, ℕ, ◌<◌, Bool, true, false, cond, eqb, ltb, ◌↔◌, List, [], ◌∷◌, ◌++◌, length, take, is_some, Some, None, Option, sym, refl, ap, ◌∙◌, subst, ⊎_elim, arith, lt-ltb, eq-eqb, eqb-true}
use borrow.Author.Tests.{not-true, not-false, both_ways, clash}
use Rattle.std.proofs.lemmas.List.{get_or_append_left, get_or_push, get_or-take, length_push, length-take}
use Rattle.std.proofs.lemmas.Bool.{cond-true, cases_lt, not_from_false}
use Rattle.recording.specs.Posts.{marks_in}
use Rattle.recording.specs.declared.row.Row.{Row}
use Rattle.happens_before.specs.Trace.{row, thread}
use Rattle.recording.specs.Rows.{blank}
use Rattle.happens_before.specs.Race.{TaskPost, Nearest, first, later, Environment, Delayed, Foreign}
use Rattle.happens_before.specs.Theorems.{PostedFirst}
use Rattle.happens_before.proofs.Agree.{Agree, agree_sym}
use Rattle.happens_before.proofs.Extended.{agree_extended, agree_cut}
use Rattle.happens_before.proofs.Races.{task_post_earlier, nearest_environment, nearest_delayed, nearest_foreign}
use Rattle.rules.specs.Options.{is_of}
use Rattle.races.specs.declared.nearest.NearestPosts.{NearestPosts}
use Rattle.races.specs.Chains.{no_posts, nearest_at, nearest_past, nearest_added, Finds, NearestTo, NearestRight, NearestOfAdded}

pub ne_true : (b : Bool) → (b ≡ true → ⊥) → b ≡ false
ne_true true f = absurd (f refl)
ne_true false f = refl

pub finds_like : (o : Option ℕ) (P Q : ℕ → Type 0) → ((a : ℕ) → P a ↔ Q a) → Finds o P → Finds o Q
finds_like o P Q same found a = (λ e. (same a).0 ((found a).0 e), λ q. (found a).1 ((same a).1 q))

-- ---- The nearest of one kind, of a position in no task, or in a task that was posted at b

module _ (trace : List Row) (P : ℕ → Type 0) (n : ℕ) where
  pub nearest_none : ((a : ℕ) → TaskPost trace n a → ⊥) → Finds None (Nearest trace P n)
  nearest_none none a = (λ e. absurd (clash e), no)
    where
      no : Nearest trace P n a → is_of None a ≡ true
      no (first t p) = absurd (none _ t)
      no (later t p r) = absurd (none _ t)

  module _ (b : ℕ) (post : Finds (Some b) (TaskPost trace n)) where
    it : TaskPost trace n b
    it = (post b).0 (eq-eqb b b refl)

    only : (a : ℕ) → TaskPost trace n a → b ≡ a
    only a t = eqb-true b a ((post a).1 t)

    here : P b → Finds (Some b) (Nearest trace P n)
    here fits a = (λ e. subst (Nearest trace P n) (eqb-true b a e) (first it fits), back)
      where
        back : Nearest trace P n a → eqb b a ≡ true
        back (first t p) = (post _).1 t
        back (later t f r) = absurd (f (subst P (only _ t) fits))

    beyond : (o : Option ℕ) → (P b → ⊥) → Finds o (Nearest trace P b) → Finds o (Nearest trace P n)
    beyond o not-here found a = (λ e. later it not-here ((found a).0 e), back)
      where
        back : Nearest trace P n a → is_of o a ≡ true
        back (first t p) = absurd (not-here (subst P (sym (only _ t)) p))
        back (later t f r) = (found a).1 (subst (λ x. Nearest trace P x a) (sym (only _ t)) r)

    pub nearest_where :
        (fits : Bool) (o : Option ℕ)
        → (fits ≡ true) ↔ P b
        → (fits ≡ false → Finds o (Nearest trace P b))
        → Finds (cond fits (Some b) o) (Nearest trace P n)
    nearest_where true o tells found = here (tells.0 refl)
    nearest_where false o tells found = beyond o (λ p. clash (tells.1 p)) (found refl)

-- ---- Traces that agree have the same nearest posts

pub nearest_to_agree :
    {n : ℕ} {xs ys : List Row} → Agree n xs ys → (i : ℕ) (posts : NearestPosts) → i < n → NearestTo xs i posts → NearestTo ys i posts
nearest_to_agree g i posts l right =
    record {
      environment = finds_like _ _ _ (λ a. nearest_environment g i a l) right.environment;
      delayed = finds_like _ _ _ (λ a. nearest_delayed g i a l) right.delayed;
      foreign = finds_like _ _ _ (λ a. nearest_foreign g i l i a l) right.foreign;
    }

-- none are held: none are right
pub nearest_right_none : NearestRight [] []
nearest_right_none i l = let z : ⊥ = omega arith in absurd z

pub nearest_right_cut :
    (n : ℕ) (held : List Row) (nearests : List NearestPosts)
    → PostedFirst held
    → NearestRight held nearests
    → NearestRight (take n held) (take n nearests)
nearest_right_cut n held nearests posted right i l =
    let e = length-take n held in
    let u : i < n = omega arith in
    subst (NearestTo (take n held) i) (sym (get_or-take n nearests i no_posts u))
    (nearest_to_agree (agree_cut n held posted) i (nearest_at nearests i) l (right i (omega arith)))

-- ---- One operation more

module _
    (held : List Row) (nearests : List NearestPosts) (o : Row) (posted : PostedFirst (held ++ o ∷ []))
    (right : NearestRight held nearests)
  where
    earlier : (i : ℕ) → i < length held → NearestTo (held ++ o ∷ []) i (nearest_at nearests i)
    earlier i l =
        nearest_to_agree (agree_sym (agree_extended held (o ∷ []) posted)) i (nearest_at nearests i) l (right i l)

    pub nearest_right_push :
        (posts : NearestPosts)
        → length nearests ≡ length held
        → NearestTo (held ++ o ∷ []) (length held) posts
        → NearestRight (held ++ o ∷ []) (nearests ++ posts ∷ [])
    nearest_right_push posts e new i l =
        ⊎_elim
        (λ u.
        subst (NearestTo (held ++ o ∷ []) i) (sym (get_or_append_left nearests (posts ∷ []) no_posts i (omega arith)))
        (earlier i u))
        (λ u.
        let m = length_push held o in
        let n : length held ≡ i = omega arith in
        subst (λ k. NearestTo (held ++ o ∷ []) k (nearest_at (nearests ++ posts ∷ []) k)) n
        (subst (NearestTo (held ++ o ∷ []) (length held)) (sym (get_or_push nearests posts no_posts (length held) e)) new))
        (cases_lt i (length held))

    pub nearest_to_none :
        Finds None (TaskPost (held ++ o ∷ []) (length held)) → NearestTo (held ++ o ∷ []) (length held) no_posts
    nearest_to_none none =
        record {
          environment = nearest_none _ _ _ (λ a t. clash ((none a).1 t));
          delayed = nearest_none _ _ _ (λ a t. clash ((none a).1 t));
          foreign = nearest_none _ _ _ (λ a t. clash ((none a).1 t));
        }

    module _ (b : ℕ) (post : Finds (Some b) (TaskPost (held ++ o ∷ []) (length held))) where
      pub post_before : b < length held
      post_before =
          let e = length_push held o in
          task_post_earlier (held ++ o ∷ []) posted (length held) b (omega arith) ((post b).0 (eq-eqb b b refl))

      same_row : row (held ++ o ∷ []) b ≡ row held b
      same_row = get_or_append_left held (o ∷ []) blank b post_before

      newest_row : row (held ++ o ∷ []) (length held) ≡ o
      newest_row = get_or_push held o blank (length held) refl

      tells : (f : Row → Bool) → (f (row held b) ≡ true) ↔ (f (row (held ++ o ∷ []) b) ≡ true)
      tells f = (λ e. ap f same_row ∙ e, λ e. sym (ap f same_row) ∙ e)

      own : eqb (row held b).thread o.thread ≡ true → thread (held ++ o ∷ []) b ≡ thread (held ++ o ∷ []) (length held)
      own e = ap (λ (r : Row). r.thread) same_row ∙ (eqb-true _ _ e ∙ sym (ap (λ (r : Row). r.thread) newest_row))

      other : thread (held ++ o ∷ []) b ≡ thread (held ++ o ∷ []) (length held) → eqb (row held b).thread o.thread ≡ true
      other e =
          eq-eqb _ _
          (sym (ap (λ (r : Row). r.thread) same_row) ∙ (e ∙ ap (λ (r : Row). r.thread) newest_row))

      pub nearest_to_past :
          NearestTo (held ++ o ∷ []) (length held) (nearest_past o.thread b (row held b) (nearest_at nearests b))
      nearest_to_past =
          let trace : List Row = held ++ o ∷ [] in
          let n = length held in
          let beyond = earlier b post_before in
          record {
            environment =
                nearest_where trace (Environment trace) n b post _ _
                (tells (λ r. (marks_in r).environment)) (λ _. beyond.environment);
            delayed =
                nearest_where trace (Delayed trace) n b post _ _
                (tells (λ r. is_some (marks_in r).delay)) (λ _. beyond.delayed);
            foreign =
                nearest_where trace (Foreign trace (thread trace n)) n b post _ _
                (λ e f. both_ways _ (not-true _ e) (other f), λ f. not_from_false _ (ne_true _ (λ e. f (own e))))
                (λ e. subst (λ t. Finds (nearest_at nearests b).foreign (Nearest trace (Foreign trace t) b)) (own (not-false _ e)) beyond.foreign);
          }

pub nearest_added_right :
    (held : List Row) (nearests : List NearestPosts) (t : ℕ) (post : Option ℕ) (posts : NearestPosts)
    → posts ≡ nearest_added held nearests t post
    → NearestOfAdded held nearests t post posts
nearest_added_right held nearests t None posts is o thread posted post same right =
    nearest_right_push held nearests o posted right posts same
    (subst (NearestTo (held ++ o ∷ []) (length held)) (sym is) (nearest_to_none held nearests o posted right post))
nearest_added_right held nearests t (Some b) posts is o thread posted post same right =
    let past = λ (t : ℕ). nearest_past t b (row held b) (nearest_at nearests b) in
    let at : posts ≡ past o.thread =
    is ∙ (cond-true (ltb b (length held)) (past t) no_posts (lt-ltb b (length held) (post_before held nearests o posted right b post))
    ∙ ap past (sym thread)) in
    nearest_right_push held nearests o posted right posts same
    (subst (NearestTo (held ++ o ∷ []) (length held)) (sym at) (nearest_to_past held nearests o posted right b post))
