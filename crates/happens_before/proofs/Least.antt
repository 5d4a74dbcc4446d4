-- The computed ordering is closed, and within every closed one.
use Rattle.std.proofs.Common.{◌≡◌, ℕ, zero, suc, ◌<◌, true, false, ◌⊎◌, ◌↔◌, List, length, sym, ◌∙◌, inl, inr, ⊎_elim, arith}
use Rattle.std.proofs.lemmas.Grind.{common_steps}
use borrow.Author.Tests.{both_ways}
use Rattle.std.proofs.lemmas.Bool.{cases_eq, cases_Bool}
use Rattle.recording.specs.declared.row.Row.{Row}
use Rattle.happens_before.specs.Trace.{thread}
use Rattle.happens_before.specs.Order.{Precedence, Pairs, Closed, Before, Lacked, QueueOrder, RunToCompletion}
use Rattle.happens_before.specs.Theorems.{PostedFirst, Least}
use Rattle.happens_before.proofs.Rules.{Base, program_order, task_order, attach_order, enable_order, post_order, fork_order, join_order, lock_order, queue_order, run_to_completion, EarlyQueueOrder, EarlyRunToCompletion, base_sound, base_full, Through, test_through, through}
use Rattle.happens_before.proofs.Columns.{hb, hb_rising, hb_base, hb_through, hb_least}

-- ---- In a trace that posts first, what the two task rules speak of stands before j

module _
    (D : Precedence) (trace : List Row) (R : Pairs) (first : PostedFirst trace)
    (rising : (k b : ℕ) → R k b ≡ true → k < b) (i j : ℕ) (lj : j < length trace)
  where
    pub early_queue_order : QueueOrder D trace R i j → EarlyQueueOrder D trace R i j
    early_queue_order (t, (a, b, p, q, r, d)) = grind (arith, common_steps)

    pub early_run_to_completion : RunToCompletion trace R i j → EarlyRunToCompletion trace R i j
    early_run_to_completion r = grind (arith, common_steps)

module _ (D : Precedence) (trace : List Row) where
  pub hb_given : (i j : ℕ) → i < j → j < length trace → Base D trace (hb D trace) i j → hb D trace i j ≡ true
  hb_given i j l u b = hb_base D trace j u i (base_full D trace (hb D trace) i j l b)

  pub hb_transitive :
      (i k j : ℕ) → hb D trace i k ≡ true → hb D trace k j ≡ true → Through trace j i k → hb D trace i j ≡ true
  unfolding through
  hb_transitive i k j p q t =
      hb_through D trace j (hb_rising D trace k j q).1 i k p q ((test_through trace j i k).full t)

  pub hb_closed : PostedFirst trace → Closed D trace (hb D trace)
  hb_closed first =
      record {
        rising = hb_rising D trace;
        program_order = λ i j l u r. hb_given i j l u (program_order r);
        task_order = λ i j l u r. hb_given i j l u (task_order r);
        attach_order = λ i j l u r. hb_given i j l u (attach_order r);
        enable_order = λ i j l u r. hb_given i j l u (enable_order r);
        post_order = λ i j l u r. hb_given i j l u (post_order r);
        fork_order = λ i j l u r. hb_given i j l u (fork_order r);
        join_order = λ i j l u r. hb_given i j l u (join_order r);
        lock_order = λ i j l u r. hb_given i j l u (lock_order r);
        queue_order = λ i j l u r. hb_given i j l u (queue_order (early_queue_order D trace (hb D trace) first up i j u r));
        run_to_completion =
            λ i j l u r. hb_given i j l u (run_to_completion (early_run_to_completion D trace (hb D trace) first up i j u r));
        thread_transitivity = λ i j l u (k, p, q, e, f). hb_transitive i k j p q (inl f);
        cross_thread_transitivity = λ i j l u (k, p, q, e). hb_transitive i k j p q (inr e);
      }
    where
      up : (k b : ℕ) → hb D trace k b ≡ true → k < b
      up k b e = (hb_rising D trace k b e).0

  -- ---- It is within every other

  module _ (R : Pairs) (closed : Closed D trace R) where
    -- R has what is in the columns before j
    Within : ℕ → Type 0
    Within j = (k b : ℕ) → b < j → hb D trace k b ≡ true → R k b ≡ true

    within_base :
        (i j : ℕ) → i < j → j < length trace → Within j → Base D trace (hb D trace) i j → R i j ≡ true
    unfolding Within
    within_base i j l u ih (program_order r) = closed.program_order i j l u r
    within_base i j l u ih (task_order r) = closed.task_order i j l u r
    within_base i j l u ih (attach_order r) = closed.attach_order i j l u r
    within_base i j l u ih (enable_order r) = closed.enable_order i j l u r
    within_base i j l u ih (post_order r) = closed.post_order i j l u r
    within_base i j l u ih (fork_order r) = closed.fork_order i j l u r
    within_base i j l u ih (join_order r) = closed.join_order i j l u r
    within_base i j l u ih (lock_order r) = closed.lock_order i j l u r
    within_base i j l u ih (queue_order (t, (a, b, aj, bj, p, q, r, d))) =
        closed.queue_order i j l u (t, (a, b, p, q, ih a b bj r, d))
    within_base i j l u ih (run_to_completion (t, (k, b, kj, bj, p, q, r))) =
        closed.run_to_completion i j l u
        (t, (k, b, p, q, ⊎_elim {C = (k ≡ b) ⊎ (R k b ≡ true)} (λ e. inl e) (λ e. inr (ih k b bj e)) r))

    within_through :
        (i k j : ℕ) → i < j → j < length trace → R i k ≡ true → R k j ≡ true → Through trace j i k → R i j ≡ true
    within_through i k j l u p q t =
        ⊎_elim
        (λ e.
        ⊎_elim
        (λ f. closed.thread_transitivity i j l u (k, p, q, e ∙ sym f, f))
        (λ n. absurd (n e))
        t)
        (λ n. closed.cross_thread_transitivity i j l u (k, p, q, n))
        (cases_eq (thread trace i) (thread trace j))

    within_column : (j : ℕ) → j < length trace → Within j → (i : ℕ) → hb D trace i j ≡ true → R i j ≡ true
    unfolding Within through
    within_column j u ih i e =
        hb_least D trace j u (λ x. R x j ≡ true)
        (λ x b. let s = base_sound D trace (hb D trace) x j b in within_base x j s.0 u ih s.1)
        (λ x k p kj r t.
        let xk = (hb_rising D trace x k p).0 in
        within_through x k j (omega arith) u (ih x k kj p) r ((test_through trace j x k).sound t))
        i e

    within : (n : ℕ) → Within n
    unfolding Within
    within zero k b l e = let z : ⊥ = omega arith in absurd z
    within (suc n) i j l e =
        within_column j (hb_rising D trace i j e).1 (λ k b bj h. within n k b (omega arith) h) i e

    pub hb_within : (i j : ℕ) → hb D trace i j ≡ true → R i j ≡ true
    unfolding Within
    hb_within i j e = within (suc j) i j (omega arith) e

  pub before_hb : PostedFirst trace → (i j : ℕ) → Before D trace i j ↔ (hb D trace i j ≡ true)
  before_hb first i j = (λ b. b (hb D trace) (hb_closed first), λ e R c. hb_within R c i j e)

  pub lacked_hb : PostedFirst trace → (i j : ℕ) → Lacked D trace i j ↔ (hb D trace i j ≡ false)
  lacked_hb first i j = (
    λ (R, c, n).
        ⊎_elim (λ e. absurd (both_ways (R i j) n (hb_within R c i j e))) (λ e. e) (cases_Bool (hb D trace i j)),
    λ e. (hb D trace, hb_closed first, e),
  )

  pub least : PostedFirst trace → Least D trace
  least first =
      record { least = hb D trace; closed = hb_closed first; before = before_hb first; lacked = lacked_hb first }

-- ---- Traces with the same computed order

module _
    (D : Precedence) (xs ys : List Row) (fx : PostedFirst xs) (fy : PostedFirst ys)
    (i j : ℕ) (same : hb D xs i j ≡ hb D ys i j)
  where
    pub before_same : Before D xs i j ↔ Before D ys i j
    before_same = (
      λ b. (before_hb D ys fy i j).1 (sym same ∙ (before_hb D xs fx i j).0 b),
      λ b. (before_hb D xs fx i j).1 (same ∙ (before_hb D ys fy i j).0 b),
    )

    pub lacked_same : Lacked D xs i j ↔ Lacked D ys i j
    lacked_same = (
      λ b. (lacked_hb D ys fy i j).1 (sym same ∙ (lacked_hb D xs fx i j).0 b),
      λ b. (lacked_hb D xs fx i j).1 (same ∙ (lacked_hb D ys fy i j).0 b),
    )
