-- The nearest posts of each position, computed from the task posts.
use Rattle.std.proofs.Common.{◌≡◌, ℕ, zero, suc, ◌+◌, ◌<◌, Bool, true, false, cond, List, map, length, Some, None, Option, sym, refl, ◌∙◌, subst, ⊎_elim, arith, eq-eqb, eqb-true}
use borrow.Author.Tests.{not-false, clash}
use Rattle.std.specs.List.{range_with_len}
use Rattle.std.proofs.lemmas.List.FromFn.{get_or-map-range_with_len}
use Rattle.std.proofs.lemmas.Bool.{cases_eq}
use Rattle.std.proofs.lemmas.Bool.Decides.{Decides-eqb, Decides-not}
use Rattle.recording.specs.Codes.{post}
use Rattle.recording.specs.declared.row.Row.{Row}
use Rattle.happens_before.specs.Race.{TaskPost, Nearest, Environment, Delayed, Foreign}
use Rattle.happens_before.specs.Theorems.{PostedFirst}
use Rattle.happens_before.specs.Trace.{row, code, thread, item, Belongs}
use Rattle.happens_before.proofs.Posted.{post_held}
use Rattle.happens_before.proofs.Races.{task_post_earlier}
use Rattle.happens_before.proofs.Rules.{belongs}
use Rattle.happens_before.proofs.Tested.{Tested, equal, like, both}
use Rattle.rules.specs.Options.{is_of}
use Rattle.races.specs.Chains.{no_posts, nearest_past, Finds, NearestTo, NearestRight}
use Rattle.races.specs.declared.nearest.NearestPosts.{NearestPosts}
use Rattle.races.proofs.Nearests.{nearest_none, nearest_where}

-- ---- The number below n that passes

abbrev found : ℕ → (ℕ → Bool) → Option ℕ
found zero f = None
found (suc n) f = let rest = found n f in cond (f n) (Some n) rest

found_sound : (n : ℕ) (f : ℕ → Bool) (a : ℕ) → is_of (found n f) a ≡ true → f a ≡ true
found_sound zero f a h = absurd (clash h)
found_sound (suc n) f a h = go (f n) refl h (found_sound n f a)
  where
    go : (b : Bool) → f n ≡ b → is_of (cond b (Some n) (found n f)) a ≡ true → (is_of (found n f) a ≡ true → f a ≡ true) → f a ≡ true
    go true e h rest = subst (λ x. f x ≡ true) (eqb-true n a h) e
    go false e h rest = rest h

found_full : (n : ℕ) (f : ℕ → Bool) (a : ℕ) → a < n → f a ≡ true → (b : ℕ) × (is_of (found n f) b ≡ true)
found_full zero f a l h = let z : ⊥ = omega arith in absurd z
found_full (suc n) f a l h = go (f n) refl (found_full n f a)
  where
    go :
        (c : Bool) → f n ≡ c → (a < n → f a ≡ true → (b : ℕ) × (is_of (found n f) b ≡ true))
        → (b : ℕ) × (is_of (cond c (Some n) (found n f)) b ≡ true)
    go true e rest = (n, eq-eqb n n refl)
    go false e rest =
        rest
        (⊎_elim (λ (q : a ≡ n). absurd (clash (sym e ∙ subst (λ x. f x ≡ true) q h))) (λ ne. omega arith) (cases_eq a n))
        h

found_finds :
    (n : ℕ) (P : ℕ → Type 0) (t : (a : ℕ) → Tested (P a))
    → ((a : ℕ) → P a → a < n)
    → ((a b : ℕ) → P a → P b → a ≡ b)
    → Finds (found n (λ a. (t a).answer)) P
found_finds n P t below one a = (
  λ h. (t a).sound (found_sound n _ a h),
  λ p.
      let (b, h) = found_full n _ a (below a p) ((t a).full p) in
      subst (λ x. is_of (found n (λ a. (t a).answer)) x ≡ true) (one b a ((t b).sound (found_sound n _ b h)) p) h,
)

-- ---- The post of the task that i belongs to

abbrev test_task_post : (trace : List Row) (i a : ℕ) → Tested (TaskPost trace i a)
test_task_post trace i a =
    like
    (λ (c, b). (item trace a, b, (c, refl)))
    (λ (p, b, q). (q.0, subst (Belongs trace i) (sym q.1) b))
    (both (equal (code trace a) post) (λ _. belongs trace i (item trace a)))

abbrev task_post : List Row → ℕ → Option ℕ
task_post trace i = found (length trace) (λ a. (test_task_post trace i a).answer)

-- ---- The nearest posts of i; a chain is shorter than k

abbrev past : List Row → ℕ → (ℕ → NearestPosts) → Option ℕ → NearestPosts
past trace t nearest None = no_posts
past trace t nearest (Some b) = nearest_past t b (row trace b) (nearest b)

abbrev nearest_in : List Row → ℕ → ℕ → NearestPosts
nearest_in trace zero i = no_posts
nearest_in trace (suc k) i = past trace (thread trace i) (nearest_in trace k) (task_post trace i)

unfoldable pub nearests_of : List Row → List NearestPosts
nearests_of trace = map (nearest_in trace (length trace)) (range_with_len 0 (length trace))

module _
    (trace : List Row) (posted : PostedFirst trace)
    (one : (i a b : ℕ) → TaskPost trace i a → TaskPost trace i b → a ≡ b)
  where
    task_post_lem : (i : ℕ) → Finds (task_post trace i) (TaskPost trace i)
    task_post_lem i =
        found_finds (length trace) (TaskPost trace i) (test_task_post trace i)
        (λ a (p, _, q). post_held trace a p q)
        (one i)

    nearest_past_lem :
        (i : ℕ) (nearest : ℕ → NearestPosts)
        → i < length trace
        → ((b : ℕ) → b < i → NearestTo trace b (nearest b))
        → (o : Option ℕ)
        → Finds o (TaskPost trace i)
        → NearestTo trace i (past trace (thread trace i) nearest o)
    nearest_past_lem i nearest u before None finds =
        record {
          environment = nearest_none trace _ i (λ a t. clash ((finds a).1 t));
          delayed = nearest_none trace _ i (λ a t. clash ((finds a).1 t));
          foreign = nearest_none trace _ i (λ a t. clash ((finds a).1 t));
        }
    nearest_past_lem i nearest u before (Some b) finds =
        let l : b < i = task_post_earlier trace posted i b u ((finds b).0 (eq-eqb b b refl)) in
        let beyond = before b l in
        record {
          environment =
              nearest_where trace (Environment trace) i b finds _ _ (λ e. e, λ e. e) (λ _. beyond.environment);
          delayed = nearest_where trace (Delayed trace) i b finds _ _ (λ e. e, λ e. e) (λ _. beyond.delayed);
          foreign =
              nearest_where trace (Foreign trace (thread trace i)) i b finds _ _
              (Decides-not _ (Decides-eqb (thread trace b) (thread trace i)))
              (λ e.
              subst (λ t. Finds (nearest b).foreign (Nearest trace (Foreign trace t) b))
              (eqb-true (thread trace b) (thread trace i) (not-false _ e))
              beyond.foreign);
        }

    nearest_in_lem : (k i : ℕ) → i < k → i < length trace → NearestTo trace i (nearest_in trace k i)
    nearest_in_lem zero i l u = let z : ⊥ = omega arith in absurd z
    nearest_in_lem (suc k) i l u =
        nearest_past_lem i (nearest_in trace k) u (λ b bi. nearest_in_lem k b (omega arith) (omega arith)) (task_post trace i) (task_post_lem i)

    pub nearests_right : NearestRight trace (nearests_of trace)
    unfolding nearests_of
    nearests_right i u =
        let z : 0 + i ≡ i = omega arith in
        subst (NearestTo trace i)
        (sym (get_or-map-range_with_len (nearest_in trace (length trace)) 0 (length trace) i i no_posts u z))
        (nearest_in_lem (length trace) i u u)
