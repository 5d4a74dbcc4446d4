-- A test for each rule at positions i < j. Those of queue order and run to completion look only at posts before j.
use Rattle.std.proofs.Common.{◌≡◌, ℕ, suc, ◌<◌, ◌≤◌, Bool, true, ◌⊎◌, List, sym, subst, arith}
use Rattle.std.proofs.lemmas.Grind.{common_steps}
use Rattle.recording.specs.Codes.{loop_on_q, begin, end}
use Rattle.recording.specs.declared.row.Row.{Row}
use Rattle.happens_before.specs.Trace.{code, thread, item, marks, Does, Belongs, Posts}
use Rattle.happens_before.specs.Order.{Precedence, Pairs, ProgramOrder, TaskOrder, AttachOrder, EnableOrder, PostOrder}
use Rattle.happens_before.specs.Order.{ForkOrder, JoinOrder, LockOrder, Handover}
use Rattle.happens_before.proofs.Tested.{Tested, holds, equal, at_most, less, like, both, three, four, either, never, some_below, none_below}

-- ---- The rules that read the trace alone

module _ (trace : List Row) where
  abbrev pub does : (i c t p : ℕ) → Tested (Does trace i c t p)
  does i c t p = three (equal _ _) (λ _. equal _ _) (λ _. equal _ _)

  -- the thread of i began p at b, and did not end it since
  abbrev pub Began : ℕ → ℕ → ℕ → Type 0
  Began i p b =
      Does trace b begin (thread trace i) p
      × ((e : ℕ) → b ≤ e → e < i → Does trace e end (thread trace i) p → ⊥)

  abbrev pub began : (i p b : ℕ) → Tested (Began i p b)
  began i p b =
      both (does b begin (thread trace i) p)
      (λ _.
      like (λ h e l u d. h e u (l, d)) (λ h e u r. h e r.0 u r.1)
      (none_below i (λ e. (b ≤ e) × Does trace e end (thread trace i) p)
      (λ e. both (at_most b e) (λ _. does e end (thread trace i) p))))

  abbrev pub belongs : (i p : ℕ) → Tested (Belongs trace i p)
  belongs i p =
      like
      (λ r. let l = r.1 in (r.0, omega arith, r.2.0, r.2.1))
      (λ r. let l = r.1 in (r.0, omega arith, (r.2, r.3)))
      (some_below (suc i) (Began i p) (began i p))

  abbrev pub posts : (a p : ℕ) → Tested (Posts trace a p)
  posts a p = both (equal _ _) (λ _. equal _ _)

  abbrev pub handover : (i j : ℕ) → Tested (Handover trace i j)
  handover i j = three (equal _ _) (λ _. equal _ _) (λ _. equal _ _)

  abbrev pub test_program_order : (i j : ℕ) → Tested (ProgramOrder trace i j)
  test_program_order i j =
      both (equal _ _)
      (λ _.
      like (λ h l u c t. h l u (c, t)) (λ h l u r. h l u r.0 r.1)
      (none_below i (λ l. (code trace l ≡ loop_on_q) × (thread trace l ≡ thread trace i))
      (λ l. both (equal _ _) (λ _. equal _ _))))

  -- the task is one that the thread of i began
  abbrev pub test_task_order : (i j : ℕ) → Tested (TaskOrder trace i j)
  test_task_order i j =
      like
      (λ r. let l = r.1 in (item trace r.0, (r.0, omega arith, r.2.0.0, r.2.0.1), r.2.1))
      (λ r.
      let w = r.1 in
      let l = w.1 in (
        w.0,
        omega arith,
        subst (λ p. Began i p w.0 × Belongs trace j p) (sym w.2.2) ((w.2, w.3), r.2),
      ))
      (some_below (suc i) (λ b. Began i (item trace b) b × Belongs trace j (item trace b))
      (λ b. both (began i (item trace b) b) (λ _. belongs j (item trace b))))

  abbrev pub test_attach_order : (i j : ℕ) → Tested (AttachOrder trace i j)
  test_attach_order i j = four (equal _ _) (λ _. equal _ _) (λ _. equal _ _) (λ _. never (equal _ _))

  abbrev pub test_enable_order : (i j : ℕ) → Tested (EnableOrder trace i j)
  test_enable_order i j = three (equal _ _) (λ _. equal _ _) (λ _. equal _ _)

  abbrev pub test_post_order : (i j : ℕ) → Tested (PostOrder trace i j)
  test_post_order i j = three (equal _ _) (λ _. equal _ _) (λ _. equal _ _)

  abbrev pub test_fork_order : (i j : ℕ) → Tested (ForkOrder trace i j)
  test_fork_order i j = three (equal _ _) (λ _. equal _ _) (λ _. equal _ _)

  abbrev pub test_join_order : (i j : ℕ) → Tested (JoinOrder trace i j)
  test_join_order i j = three (equal _ _) (λ _. equal _ _) (λ _. equal _ _)

  abbrev pub test_lock_order : (i j : ℕ) → Tested (LockOrder trace i j)
  test_lock_order i j = four (equal _ _) (λ _. equal _ _) (λ _. equal _ _) (λ _. never (equal _ _))

-- ---- The two about tasks, of posts and operations before j

abbrev pub EarlyQueueOrder : Precedence → List Row → Pairs → ℕ → ℕ → Type 0
EarlyQueueOrder D trace R i j =
    Handover trace i j
    × ((a b : ℕ)
    × (a < j)
    × (b < j)
    × Posts trace a (item trace i)
    × Posts trace b (item trace j)
    × (R a b ≡ true)
    × (D (marks trace a) (marks trace b) ≡ true))

abbrev pub EarlyRunToCompletion : List Row → Pairs → ℕ → ℕ → Type 0
EarlyRunToCompletion trace R i j =
    Handover trace i j
    × ((k b : ℕ)
    × (k < j)
    × (b < j)
    × Belongs trace k (item trace i)
    × Posts trace b (item trace j)
    × ((k ≡ b) ⊎ (R k b ≡ true)))

module _ (D : Precedence) (trace : List Row) (R : Pairs) (i j : ℕ) where
  abbrev Queued : ℕ → ℕ → Type 0
  Queued b a = Posts trace a (item trace i) × (R a b ≡ true) × (D (marks trace a) (marks trace b) ≡ true)

  abbrev Ran : ℕ → ℕ → Type 0
  Ran b k = Belongs trace k (item trace i) × ((k ≡ b) ⊎ (R k b ≡ true))

  unfoldable pub test_queue_order : Tested (EarlyQueueOrder D trace R i j)
  test_queue_order =
      both (handover trace i j)
      (λ _.
      like
      (λ (b, bj, (q, (a, aj, w))). (a, b, aj, bj, w.0, q, w.1, w.2))
      (λ (a, b, aj, bj, p, q, r, d). (b, bj, (q, (a, aj, (p, r, d)))))
      (some_below j (λ b. Posts trace b (item trace j) × ((a : ℕ) × (a < j) × Queued b a))
      (λ b.
      both (posts trace b (item trace j))
      (λ _.
      some_below j (Queued b) (λ a. three (posts trace a (item trace i)) (λ _. holds _) (λ _. holds _))))))

  unfoldable pub test_run_to_completion : Tested (EarlyRunToCompletion trace R i j)
  test_run_to_completion =
      both (handover trace i j)
      (λ _.
      like
      (λ (b, bj, (q, (k, kj, w))). (k, b, kj, bj, w.0, q, w.1))
      (λ (k, b, kj, bj, p, q, r). (b, bj, (q, (k, kj, (p, r)))))
      (some_below j (λ b. Posts trace b (item trace j) × ((k : ℕ) × (k < j) × Ran b k))
      (λ b.
      both (posts trace b (item trace j))
      (λ _.
      some_below j (Ran b)
      (λ k. both (belongs trace k (item trace i)) (λ _. either (equal _ _) (λ _. holds _)))))))

-- ---- What a rule gives of itself, without the two transitive ones

pub data Base (D : Precedence) (trace : List Row) (R : Pairs) (i j : ℕ) : Type 0 where
  program_order : ProgramOrder trace i j → Base D trace R i j
  task_order : TaskOrder trace i j → Base D trace R i j
  attach_order : AttachOrder trace i j → Base D trace R i j
  enable_order : EnableOrder trace i j → Base D trace R i j
  post_order : PostOrder trace i j → Base D trace R i j
  fork_order : ForkOrder trace i j → Base D trace R i j
  join_order : JoinOrder trace i j → Base D trace R i j
  lock_order : LockOrder trace i j → Base D trace R i j
  queue_order : EarlyQueueOrder D trace R i j → Base D trace R i j
  run_to_completion : EarlyRunToCompletion trace R i j → Base D trace R i j

module _ (D : Precedence) (trace : List Row) (R : Pairs) (i j : ℕ) where
  abbrev Sum : Type 0
  Sum =
      ProgramOrder trace i j
      ⊎ (TaskOrder trace i j
      ⊎ (AttachOrder trace i j
      ⊎ (EnableOrder trace i j
      ⊎ (PostOrder trace i j
      ⊎ (ForkOrder trace i j
      ⊎ (JoinOrder trace i j
      ⊎ (LockOrder trace i j ⊎ (EarlyQueueOrder D trace R i j ⊎ EarlyRunToCompletion trace R i j))))))))

  pub named : Sum → Base D trace R i j
  named s = grind (arith, common_steps)

  pub unnamed : Base D trace R i j → Sum
  unnamed b = grind (arith, common_steps)

  unfoldable pub test_base : Tested ((i < j) × Base D trace R i j)
  test_base =
      both (less i j)
      (λ _.
      like named unnamed
      (either (test_program_order trace i j)
      (λ _. either (test_task_order trace i j)
      (λ _. either (test_attach_order trace i j)
      (λ _. either (test_enable_order trace i j)
      (λ _. either (test_post_order trace i j)
      (λ _. either (test_fork_order trace i j)
      (λ _. either (test_join_order trace i j)
      (λ _. either (test_lock_order trace i j)
      (λ _. either (test_queue_order D trace R i j) (λ _. test_run_to_completion D trace R i j)))))))))))

  unfoldable pub base : Bool
  base = test_base.answer

  pub base_sound : base ≡ true → (i < j) × Base D trace R i j
  unfolding base
  base_sound h = test_base.sound h

  pub base_full : i < j → Base D trace R i j → base ≡ true
  unfolding base
  base_full l b = test_base.full (l, b)

-- ---- Whether what is before k is so before j, by one of the transitive rules

abbrev pub Through : List Row → ℕ → ℕ → ℕ → Type 0
Through trace j i k = (thread trace k ≡ thread trace j) ⊎ (thread trace i ≡ thread trace j → ⊥)

abbrev pub test_through : (trace : List Row) (j i k : ℕ) → Tested (Through trace j i k)
test_through trace j i k = either (equal _ _) (λ _. never (equal _ _))

unfoldable pub through : List Row → ℕ → ℕ → ℕ → Bool
through trace j i k = (test_through trace j i k).answer
