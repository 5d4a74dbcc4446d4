-- Acceptance under a renaming.
use Rattle.std.proofs.Common.{◌≡◌, ℕ, zero, suc, ◌<◌, Bool, true, false, cond, not, ◌&&◌, ◌||◌, eqb, leb, List, [], ◌∷◌, map, length, sym, refl, ap, ◌∙◌, ap₂, arith, eqb-true}
use Rattle.std.proofs.lemmas.Grind.{common_steps}
use lib.ListN.{length-map}
use Rattle.std.proofs.lemmas.List.{get_or-map}
use Rattle.std.proofs.lemmas.Bool.{cond-true}
use Rattle.std.proofs.lemmas.Bool.Decides.{same_from_decides}
use Rattle.recording.specs.Codes.{threadinit, threadexit, fork, join, attach_q, loop_on_q, post, begin, end, acquire, release, has_target, has_task, has_lock}
use Rattle.recording.specs.Faults.{first}
use Rattle.recording.specs.Posts.{marks_in}
use Rattle.recording.specs.declared.row.Row.{Row}
use Rattle.happens_before.specs.Trace.{row, item, marks}
use Rattle.recording.specs.Rows.{blank}
use Rattle.happens_before.specs.Order.{Precedence}
use Rattle.happens_before.specs.Renaming.{Permutation, Renaming, renamed}
use Rattle.happens_before.specs.Theorems.{InRange, AllInRange}
use Rattle.rules.specs.declared.faults.StateFault.TheVariants.{Full, ThreadNotReady, WrongTarget, WrongQueue, WrongLock, OutOfTurn, NotAdmitted}
use Rattle.rules.specs.Acceptance.{Setting, some, lasting, some_below, does, does_on, is_on, forks, posts_to, started, finished, running, known, unknown, queue, current, busy, posted, waits, holds, held_by_another, overtakes, thread_not_ready, wrong_target, wrong_queue, wrong_lock, out_of_turn, not_admitted, refusal}
use Rattle.rules.specs.Runs.{RenamedSetting}
use Rattle.rules.proofs.Pushes.{some_below_true, some_below_found}

-- ---- Numbers below a bound, and a permutation of them

pub some_below_same :
    (n : ℕ) (p q : ℕ → Bool) → ((k : ℕ) → k < n → p k ≡ q k) → some_below n p ≡ some_below n q
unfolding some_below
some_below_same zero p q h = refl
some_below_same (suc n) p q h = λ t. h n (omega arith) t || some_below_same n p q (λ k l. h k (omega arith)) t

module _ {n : ℕ} (π : Permutation n) where
  pub eqb_to : (a b : ℕ) → a < n → b < n → eqb (π.to a) (π.to b) ≡ eqb a b
  eqb_to a b l u = grind (arith, common_steps)

  pub some_below_to :
      (p q : ℕ → Bool) → ((k : ℕ) → k < n → q (π.to k) ≡ p k) → some_below n q ≡ some_below n p
  some_below_to p q h =
      same_from_decides (some_below n q) (some_below n p) (from, to) (λ e. e, λ e. e)
    where
      to : some_below n p ≡ true → some_below n q ≡ true
      to e =
          let (k, l, f) = some_below_found n p e in
          some_below_true n q (π.to k) (π.to_below k l) (h k l ∙ f)

      from : some_below n q ≡ true → some_below n p ≡ true
      from e =
          let (k, l, f) = some_below_found n q e in
          let u = π.back_below k l in
          some_below_true n p (π.back k) u (sym (h (π.back k) u) ∙ (ap q (π.to_back k l) ∙ f))

-- ---- Tests that ask more only where an earlier one holds

same_if : (b x y : Bool) → (b ≡ true → x ≡ y) → (b && x) ≡ (b && y)
same_if b x y h = grind (arith, common_steps)

same_under :
    (b x y v w : Bool) → (b ≡ true → x ≡ y) → (b ≡ true → v ≡ w) → ((b && x) && v) ≡ ((b && y) && w)
same_under b x y v w h g = grind (arith, common_steps)

-- ---- One operation

module _ (m : Renaming) (x : Row) (r : InRange x) where
  pub task_to : has_task x.code ≡ true → (renamed m x).item ≡ m.tasks.to x.item
  task_to h = cond-true (has_task x.code) _ _ h

  thread_is : (t : ℕ) → t < 64 → eqb (renamed m x).thread (m.threads.to t) ≡ eqb x.thread t
  thread_is t l = eqb_to m.threads x.thread t r.0 l

  target_is :
      (t : ℕ) → t < 64 → has_target x.code ≡ true → eqb (renamed m x).target (m.threads.to t) ≡ eqb x.target t
  target_is t l h = grind (arith, common_steps)

  task_is : (p : ℕ) → p < 512 → has_task x.code ≡ true → eqb (renamed m x).item (m.tasks.to p) ≡ eqb x.item p
  task_is p l h = ap (λ u. eqb u (m.tasks.to p)) (task_to h) ∙ eqb_to m.tasks x.item p (r.2 h) l

  -- the test of a code tells which fields there are
  by : (f : ℕ → Bool) (c : ℕ) {b : Bool} → f c ≡ b → eqb x.code c ≡ true → f x.code ≡ b
  by f c h e = ap f (eqb-true x.code c e) ∙ h

  module _ (t : ℕ) (l : t < 64) where
    does_is : (c : ℕ) → does c (m.threads.to t) (renamed m x) ≡ does c t x
    does_is c = ap (λ b. eqb x.code c && b) (thread_is t l)

    aims_is :
        (c : ℕ)
        → has_target c ≡ true
        → (eqb x.code c && eqb (renamed m x).target (m.threads.to t)) ≡ (eqb x.code c && eqb x.target t)
    aims_is c h = same_if (eqb x.code c) _ _ (λ e. target_is t l (by has_target c h e))

    does_task_is :
        (c p : ℕ) → p < 512 → has_task c ≡ true → does_on c (m.threads.to t) (m.tasks.to p) (renamed m x) ≡ does_on c t p x
    does_task_is c p u h = grind (arith, common_steps)

    does_lock_is :
        (c k : ℕ)
        → k < 64
        → has_task c ≡ false
        → has_lock c ≡ true
        → does_on c (m.threads.to t) (m.locks.to k) (renamed m x) ≡ does_on c t k x
    does_lock_is c k u h g = grind (arith, common_steps)

    posts_is :
        (p : ℕ)
        → p < 512
        → (is_on post (m.tasks.to p) (renamed m x) && eqb (renamed m x).target (m.threads.to t))
        ≡ (is_on post p x && eqb x.target t)
    posts_is p u = grind (arith, common_steps)

  on_is : (c p : ℕ) → p < 512 → has_task c ≡ true → is_on c (m.tasks.to p) (renamed m x) ≡ is_on c p x
  on_is c p u h = same_if (eqb x.code c) _ _ (λ e. task_is p u (by has_task c h e))

-- ---- The operations held

module _ (m : Renaming) where
  -- a test of the renamed operation that comes out as one of the operation did
  abbrev Moves : (Row → Bool) → (Row → Bool) → Type 0
  Moves p q = (x : Row) → InRange x → q (renamed m x) ≡ p x

  some_moved :
      (p q : Row → Bool) (held : List Row)
      → AllInRange held
      → Moves p q
      → some q (map (renamed m) held) ≡ some p held
  unfolding some
  some_moved p q [] ranged h = refl
  some_moved p q (x ∷ held) ranged h =
      λ t. h x (ranged 0 (omega arith)) t || some_moved p q held (λ i l. ranged (suc i) (omega arith)) h t

  lasting_moved :
      (p q stop stop' : Row → Bool) (held : List Row)
      → AllInRange held
      → Moves p q
      → Moves stop stop'
      → lasting q stop' (map (renamed m) held) ≡ lasting p stop held
  unfolding lasting
  lasting_moved p q stop stop' [] ranged h g = refl
  lasting_moved p q stop stop' (x ∷ held) ranged h g =
      let rest = λ (i : ℕ) (l : i < length held). ranged (suc i) (omega arith) in
      λ t.
      (h x (ranged 0 (omega arith)) t && not (some_moved stop stop' held rest g t))
      || lasting_moved p q stop stop' held rest h g t

module _ (m : Renaming) (held : List Row) (ranged : AllInRange held) where
  abbrev new : List Row
  new = map (renamed m) held

  abbrev thread_to : ℕ → ℕ
  thread_to = m.threads.to

  did : (c t : ℕ) → t < 64 → some (does c (thread_to t)) new ≡ some (does c t) held
  did c t l = some_moved m _ _ held ranged (λ x r. does_is m x r t l c)

  forked : (t : ℕ) → t < 64 → some (forks (thread_to t)) new ≡ some (forks t) held
  forked t l = some_moved m _ _ held ranged (λ x r. aims_is m x r t l fork refl)

  done_on : (c p : ℕ) → p < 512 → has_task c ≡ true → some (is_on c (m.tasks.to p)) new ≡ some (is_on c p) held
  done_on c p u h = some_moved m _ _ held ranged (λ x r. on_is m x r c p u h)

  running_moved : (t : ℕ) → t < 64 → running new (thread_to t) ≡ running held t
  running_moved t l = λ i. did threadinit t l i && not (did threadexit t l i)

  waits_moved : (t p : ℕ) → t < 64 → p < 512 → waits new (thread_to t) (m.tasks.to p) ≡ waits held t p
  waits_moved t p l u =
      λ i.
      some_moved m (λ (o : Row). is_on post p o && eqb o.target t)
      (λ (o : Row). is_on post (m.tasks.to p) o && eqb o.target (thread_to t)) held ranged
      (λ x r. posts_is m x r t l p u) i
      && not (done_on begin p u refl i)

  current_moved : (t p : ℕ) → t < 64 → p < 512 → current new (thread_to t) (m.tasks.to p) ≡ current held t p
  current_moved t p l u =
      lasting_moved m _ _ _ _ held ranged
      (λ x r. does_task_is m x r t l begin p u refl)
      (λ x r. does_task_is m x r t l end p u refl)

  busy_moved : (t : ℕ) → t < 64 → busy new (thread_to t) ≡ busy held t
  busy_moved t l =
      some_below_to m.tasks (current held t) (current new (thread_to t)) (λ p u. current_moved t p l u)

  holds_moved : (t k : ℕ) → t < 64 → k < 64 → holds new (thread_to t) (m.locks.to k) ≡ holds held t k
  holds_moved t k l u =
      lasting_moved m (does_on acquire t k) (does_on acquire (thread_to t) (m.locks.to k))
      (λ (o : Row). does_on release t k o || does threadexit t o)
      (λ (o : Row). does_on release (thread_to t) (m.locks.to k) o || does threadexit (thread_to t) o)
      held ranged
      (λ x r. does_lock_is m x r t l acquire k u refl refl)
      (λ x r. λ i. does_lock_is m x r t l release k u refl refl i || does_is m x r t l threadexit i)

  held_by_another_moved :
      (t k : ℕ) → t < 64 → k < 64 → held_by_another new (thread_to t) (m.locks.to k) ≡ held_by_another held t k
  held_by_another_moved t k l u =
      some_below_to m.threads (λ v. not (eqb v t) && holds held v k)
      (λ v. not (eqb v (thread_to t)) && holds new v (m.locks.to k))
      (λ v w i. not (eqb_to m.threads v t w l i) && holds_moved v k w u i)

  -- ---- Who overtakes

  row_moved : (i : ℕ) → i < length held → row new i ≡ renamed m (row held i)
  row_moved i l = get_or-map (renamed m) held i blank blank l

  module _ (D : Precedence) (t : ℕ) (l : t < 64) where
    ahead_moved :
        (a b : ℕ)
        → a < length held
        → b < length held
        → (posts_to (thread_to t) (row new a) && (waits new (thread_to t) (item new a) && D (marks new a) (marks new b)))
        ≡ (posts_to t (row held a) && (waits held t (item held a) && D (marks held a) (marks held b)))
    ahead_moved a b u v =
        ap₂
        (λ (x y : Row). posts_to (thread_to t) x && (waits new (thread_to t) x.item && D (marks_in x) (marks_in y)))
        (row_moved a u) (row_moved b v)
        ∙ same_under (eqb (row held a).code post) _ _ _ _
        (λ e. target_is m (row held a) (ranged a u) t l (by m (row held a) (ranged a u) has_target post refl e))
        (λ e.
        let h = by m (row held a) (ranged a u) has_task post refl e in
        ap (λ w. w && D (marks held a) (marks held b))
        (ap (waits new (thread_to t)) (task_to m (row held a) (ranged a u) h)
        ∙ waits_moved t (item held a) l ((ranged a u).2 h)))

    overtakes_moved : (p : ℕ) → p < 512 → overtakes D new (thread_to t) (m.tasks.to p) ≡ overtakes D held t p
    overtakes_moved p w =
        ap (λ n. some_below n (ahead new (thread_to t) (m.tasks.to p))) (length-map held (renamed m))
        ∙ some_below_same (length held) (ahead new (thread_to t) (m.tasks.to p)) (ahead held t p)
        (λ b v i.
        (ap (is_on post (m.tasks.to p)) (row_moved b v) ∙ on_is m (row held b) (ranged b v) post p w refl) i
        && some_below_same b _ _ (λ a u. ahead_moved a b (omega arith) v) i)
      where
        ahead : List Row → ℕ → ℕ → ℕ → Bool
        ahead held t p b =
            is_on post p (row held b)
            && some_below b
            (λ a. posts_to t (row held a) && (waits held t (item held a) && D (marks held a) (marks held b)))

-- ---- Refusals

module _
    (m : Renaming) (s s' : Setting) (same : RenamedSetting m s s') (held : List Row) (ranged : AllInRange held)
    (o : Row) (r : InRange o)
  where
    abbrev after : List Row
    after = map (renamed m) held

    known_moved : (t : ℕ) → t < 64 → known after s'.initial (m.threads.to t) ≡ known held s.initial t
    known_moved t l = λ i. same.initial t l i || forked m held ranged t l i

    seen_moved :
        (t : ℕ)
        → t < 64
        → (started after (m.threads.to t) || finished after (m.threads.to t)) ≡ (started held t || finished held t)
    seen_moved t l = λ i. did m held ranged threadinit t l i || did m held ranged threadexit t l i

    at_thread : (c : ℕ) → some (does c (m.threads.to o.thread)) after ≡ some (does c o.thread) held
    at_thread c = did m held ranged c o.thread r.0

    thread_not_ready_moved : thread_not_ready s' after (renamed m o) ≡ thread_not_ready s held o
    thread_not_ready_moved =
        λ i.
        cond (eqb o.code threadinit)
        (not (known_moved o.thread r.0 i && not (seen_moved o.thread r.0 i)))
        (not (running_moved m held ranged o.thread r.0 i))

    -- of the target, where the operation has one
    at_target :
        (f g : ℕ → Bool) (c : ℕ)
        → has_target c ≡ true
        → ((t : ℕ) → t < 64 → f (m.threads.to t) ≡ g t)
        → (eqb o.code c && f (renamed m o).target) ≡ (eqb o.code c && g o.target)
    at_target f g c h moved = grind (arith, common_steps)

    wrong_target_moved : wrong_target s' after (renamed m o) ≡ wrong_target s held o
    wrong_target_moved =
        λ i.
        at_target (λ u. not (unknown after s'.initial u)) (λ u. not (unknown held s.initial u)) fork refl
        (λ t l i. not (not (known_moved t l i || seen_moved t l i))) i
        || (at_target (λ u. not (finished after u)) (λ u. not (finished held u)) join refl
        (λ t l i. not (did m held ranged threadexit t l i)) i
        || at_target (λ u. not (running after u && queue after u)) (λ u. not (running held u && queue held u)) post refl
        (λ t l i. not (running_moved m held ranged t l i && did m held ranged attach_q t l i)) i)

    wrong_queue_moved : wrong_queue s' after (renamed m o) ≡ wrong_queue s held o
    wrong_queue_moved =
        λ i.
        (eqb o.code attach_q && at_thread attach_q i)
        || ((eqb o.code loop_on_q && (not (at_thread attach_q i) || at_thread loop_on_q i))
        || (eqb o.code begin && not (at_thread loop_on_q i)))

    at_task :
        (f g : ℕ → Bool) (c : ℕ)
        → has_task c ≡ true
        → ((p : ℕ) → p < 512 → f (m.tasks.to p) ≡ g p)
        → (eqb o.code c && f (renamed m o).item) ≡ (eqb o.code c && g o.item)
    at_task f g c h moved = grind (arith, common_steps)

    at_lock :
        (f g : ℕ → Bool) (c : ℕ)
        → has_task c ≡ false
        → has_lock c ≡ true
        → ((k : ℕ) → k < 64 → f (m.locks.to k) ≡ g k)
        → (eqb o.code c && f (renamed m o).item) ≡ (eqb o.code c && g o.item)
    at_lock f g c n h moved = grind (arith, common_steps)

    wrong_lock_moved : wrong_lock s' after (renamed m o) ≡ wrong_lock s held o
    wrong_lock_moved =
        λ i.
        at_lock (held_by_another after (m.threads.to o.thread)) (held_by_another held o.thread) acquire refl refl
        (λ k u. held_by_another_moved m held ranged o.thread k r.0 u) i
        || at_lock (λ k. not (holds after (m.threads.to o.thread) k)) (λ k. not (holds held o.thread k)) release refl refl
        (λ k u i. not (holds_moved m held ranged o.thread k r.0 u i)) i

    turn_moved :
        (p : ℕ)
        → p < 512
        → (busy after (m.threads.to o.thread)
        || (not (waits after (m.threads.to o.thread) (m.tasks.to p))
        || overtakes s'.precedence after (m.threads.to o.thread) (m.tasks.to p)))
        ≡ (busy held o.thread || (not (waits held o.thread p) || overtakes s.precedence held o.thread p))
    turn_moved p u =
        λ i.
        busy_moved m held ranged o.thread r.0 i
        || (not (waits_moved m held ranged o.thread p r.0 u i)
        || (ap (λ D. overtakes D after (m.threads.to o.thread) (m.tasks.to p)) same.precedence
        ∙ overtakes_moved m held ranged s.precedence o.thread r.0 p u) i)

    out_of_turn_moved : out_of_turn s' after (renamed m o) ≡ out_of_turn s held o
    out_of_turn_moved =
        λ i.
        at_task (posted after) (posted held) post refl (λ p u. done_on m held ranged post p u refl) i
        || (at_task
        (λ p.
        busy after (m.threads.to o.thread)
        || (not (waits after (m.threads.to o.thread) p)
        || overtakes s'.precedence after (m.threads.to o.thread) p))
        (λ p. busy held o.thread || (not (waits held o.thread p) || overtakes s.precedence held o.thread p))
        begin refl turn_moved i
        || at_task (λ p. not (current after (m.threads.to o.thread) p)) (λ p. not (current held o.thread p)) end refl
        (λ p u i. not (current_moved m held ranged o.thread p r.0 u i)) i)

    not_admitted_moved : not_admitted s' after (renamed m o) ≡ not_admitted s held o
    not_admitted_moved = ap (λ a. eqb o.code post && not (a (marks_in o))) same.admission

    pub refusal_moved : refusal s' (map (renamed m) held) (renamed m o) ≡ refusal s held o
    unfolding refusal
    refusal_moved =
        λ i.
        first
        ((leb 512 (length-map held (renamed m) i), Full)
        ∷ (thread_not_ready_moved i, ThreadNotReady)
        ∷ (wrong_target_moved i, WrongTarget)
        ∷ (wrong_queue_moved i, WrongQueue)
        ∷ (wrong_lock_moved i, WrongLock)
        ∷ (out_of_turn_moved i, OutOfTurn)
        ∷ (not_admitted_moved i, NotAdmitted)
        ∷ [])
