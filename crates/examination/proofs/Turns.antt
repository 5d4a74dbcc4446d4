-- Whether a waiting task goes before another, by the place of its post.
use Rattle.std.proofs.Common.{arith, ◌≡◌, ℕ, ◌<◌, Bool, true, false, ◌&&◌, List, length, sym, subst, ⊎_elim}
use Rattle.std.proofs.lemmas.Grind.{common_steps}
use Rattle.std.specs.Bool.{MatchBool}
use Rattle.std.proofs.lemmas.Bool.{cases_Bool, and_left}
use Rattle.recording.specs.Codes.{post}
use Rattle.recording.specs.declared.row.Row.{Row}
use Rattle.happens_before.specs.Trace.{row, Posts}
use Rattle.rules.specs.Acceptance.{is_on, some_below}
use Rattle.rules.proofs.Pushes.{some_below_true, some_below_false}

module _ (held : List Row) (p : ℕ) (ahead : ℕ → ℕ → Bool) where
  posts_so : (b : ℕ) → is_on post p (row held b) ≡ true → Posts held b p
  posts_so b e = grind (arith, common_steps)

  -- where every post of the task leaves the test false, so does the whole
  pub none_ahead :
      ((b : ℕ) → Posts held b p → some_below b (ahead b) ≡ false)
      → false ≡ some_below (length held) (λ b. is_on post p (row held b) && some_below b (ahead b))
  none_ahead none =
      sym
      (some_below_false (length held) _
      (λ b l.
      ⊎_elim
      (λ (e : is_on post p (row held b) ≡ true). (λ t. e t && none b (posts_so b e) t))
      (λ e. and_left _ _ e)
      (cases_Bool (is_on post p (row held b)))))

  pub one_ahead :
      (b a : ℕ) → b < length held → Posts held b p → a < b → ahead b a ≡ true
      → true ≡ some_below (length held) (λ b. is_on post p (row held b) && some_below b (ahead b))
  one_ahead b a l h u e =
      sym (some_below_true (length held) _ b l (let r = some_below_true b (ahead b) a u e in grind (arith, common_steps)))

  -- the task is never posted
  pub never_posted : ((b : ℕ) → Posts held b p → ⊥) → false ≡ some_below (length held) (λ b. is_on post p (row held b) && some_below b (ahead b))
  never_posted none = none_ahead (λ b h. absurd (none b h))

  -- the task is posted at b alone, and r tells whether one before goes ahead of it
  pub posted_once :
      (b : ℕ) → b < length held → Posts held b p → ((k : ℕ) → Posts held k p → b ≡ k)
      → (r : Bool) {Yes No : Type 0} → MatchBool r Yes No
      → (Yes → (a : ℕ) × (a < b) × (ahead b a ≡ true)) → (No → (a : ℕ) → a < b → ahead b a ≡ false)
      → r ≡ some_below (length held) (λ b. is_on post p (row held b) && some_below b (ahead b))
  posted_once b l h once true found one none = let (a, u, e) = one found in one_ahead b a l h u e
  posted_once b l h once false found one none =
      none_ahead (λ k g. subst (λ n. some_below n (ahead n) ≡ false) (once k g) (some_below_false b (ahead b) (none found)))
