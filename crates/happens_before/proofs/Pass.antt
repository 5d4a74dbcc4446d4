-- One pass from j - 1 down to 0 makes the column of j from what the rules give of it:
-- each position k that is in the column adds what is before k and passes through k.
use Rattle.std.proofs.Common.{◌≡◌, ℕ, zero, suc, ◌+◌, ◌-◌, ◌<◌, ◌≤◌, Bool, true, not, ◌&&◌, ◌||◌, eqb, List, length, ap, ◌∙◌, subst, ⊎_elim, arith}
use Rattle.std.proofs.lemmas.Bool.{and_parts, and_from, or_cases, or_left, or_right}
use Rattle.std.proofs.lemmas.Bool.Decides.{same_from_decides}
use Rattle.recording.specs.declared.row.Row.{Row}
use Rattle.happens_before.specs.Trace.{thread}
use Rattle.happens_before.specs.Order.{Precedence}
use Rattle.happens_before.proofs.Rules.{base, base_sound, through}
use Rattle.happens_before.proofs.Columns.{hb, hb_rising, hb_base, hb_through, hb_least}

module _ (D : Precedence) (trace : List Row) (j : ℕ) where
  -- after d steps, the last at k
  unfoldable pub pass : ℕ → ℕ → ℕ → Bool
  pass zero k i = base D trace (hb D trace) i j
  pass (suc d) k i =
      pass d (suc k) i || (pass d (suc k) k && (hb D trace i k && through trace j i k))

  -- the column once the pass has come down to k
  unfoldable pub passed : ℕ → ℕ → Bool
  passed k i = pass (j - k) k i

  pub passed_start : (i : ℕ) → passed j i ≡ base D trace (hb D trace) i j
  unfolding passed pass
  passed_start i = let e : j - j ≡ 0 = omega arith in ap (λ d. pass d j i) e

  passed_adds :
      (k i : ℕ) → k < j → passed k i ≡ (passed (suc k) i || (passed (suc k) k && (hb D trace i k && through trace j i k)))
  unfolding passed pass
  passed_adds k i l = let e : j - k ≡ suc (j - suc k) = omega arith in ap (λ d. pass d k i) e

  pub passed_step :
      (k i : ℕ)
      → k < j
      → passed k i
      ≡ (passed (suc k) i
      || (passed (suc k) k
      && (hb D trace i k
      && (eqb (thread trace k) (thread trace j) || not (eqb (thread trace i) (thread trace j))))))
  unfolding through
  passed_step k i l = passed_adds k i l

  -- ---- What is added stays

  keeps : (k i : ℕ) → k < j → passed (suc k) i ≡ true → passed k i ≡ true
  keeps k i l e = passed_adds k i l ∙ or_left _ _ e

  keeps_on : (d k m i : ℕ) → k ≡ m + d → k ≤ j → passed k i ≡ true → passed m i ≡ true
  keeps_on zero k m i q l e = let r : k ≡ m = omega arith in subst (λ x. passed x i ≡ true) r e
  keeps_on (suc d) k m i q l e = keeps m i (omega arith) (keeps_on d k (suc m) i (omega arith) l e)

  passed_keeps : (k m i : ℕ) → m ≤ k → k ≤ j → passed k i ≡ true → passed m i ≡ true
  passed_keeps k m i l u e = keeps_on (k - m) k m i (omega arith) u e

  -- ---- The pass gives the column

  module _ (lj : j < length trace) where
    pass_sound : (d k i : ℕ) → pass d k i ≡ true → hb D trace i j ≡ true
    unfolding pass
    pass_sound zero k i e = hb_base D trace j lj i e
    pass_sound (suc d) k i e =
        ⊎_elim (pass_sound d (suc k) i)
        (λ h.
        let a = and_parts (pass d (suc k) k) _ h in
        let b = and_parts (hb D trace i k) _ a.1 in
        hb_through D trace j lj i k b.0 (pass_sound d (suc k) k a.0) b.1)
        (or_cases (pass d (suc k) i) _ e)

    passed_full : (i : ℕ) → hb D trace i j ≡ true → passed (suc i) i ≡ true
    passed_full i e =
        hb_least D trace j lj (λ x. passed (suc x) x ≡ true)
        (λ x b.
        let l = (base_sound D trace (hb D trace) x j b).0 in
        passed_keeps j (suc x) x l (omega arith) (passed_start x ∙ b))
        (λ x k p kj q t.
        let xk = (hb_rising D trace x k p).0 in
        passed_keeps k (suc x) x xk (omega arith)
        (passed_adds k x kj ∙ or_right (passed (suc k) x) _ (and_from _ _ q (and_from _ _ p t))))
        i e

    -- position i is final once the pass has come down to i + 1
    pub passed_final : (k i : ℕ) → k ≤ suc i → passed k i ≡ hb D trace i j
    unfolding passed
    passed_final k i l =
        same_from_decides {P = hb D trace i j ≡ true} _ _ (
          pass_sound (j - k) k i,
          λ h.
              let ij = (hb_rising D trace i j h).0 in
              passed_keeps (suc i) k i l ij (passed_full i h),
        )
        (λ h. h, λ h. h)

    pub passed_end : (i : ℕ) → passed zero i ≡ hb D trace i j
    passed_end i = passed_final zero i (omega arith)
