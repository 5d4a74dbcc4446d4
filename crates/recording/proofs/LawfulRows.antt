-- What a lawful row gives.
use Rattle.std.proofs.Common.{◌≡◌, ℕ, zero, suc, ◌<◌, Bool, true, false, not, List, [], ◌∷◌, is_some, Some, None, Option, sym, refl, ap, rules, ltb-true, eqb-true}
use Rattle.std.proofs.lemmas.Bool.{and_parts}
use borrow.Author.Tests.{not-false, clash}
use Rattle.recording.specs.declared.row.Row.{Row}
use Rattle.recording.specs.Codes.{has_target, has_task, has_lock}
use Rattle.recording.specs.Faults.{first}
use Rattle.recording.specs.Lawful.{lawful, fault_in, or_else, number_tests, zero_tests}

none : {F : Type 0} (o : Option F) → not (is_some o) ≡ true → o ≡ None
none None h = refl
none (Some f) h = absurd (clash h)

never : {F : Type 0} {A : Type 0} (f : F) → Some f ≡ None → A
never {F} f e = absurd (clash (sym (ap (is_some {T = F}) e)))

-- the n-th test
abbrev pub test : {F : Type 0} → ℕ → List (Bool × F) → Bool
test n [] = false
test zero (t ∷ ts) = t.0
test (suc n) (t ∷ ts) = test n ts

-- where no fault is found, each test came out false
pub passed : {F : Type 0} (n : ℕ) (ts : List (Bool × F)) → first ts ≡ None → test n ts ≡ false
passed zero [] e = refl
passed (suc n) [] e = refl
passed n ((true, f) ∷ ts) e = never f e
passed zero ((false, f) ∷ ts) e = refl
passed (suc n) ((false, f) ∷ ts) e = passed n ts e

second : {F : Type 0} (a b : Option F) → or_else a b ≡ None → b ≡ None
second None b e = e
second (Some f) b e = never f e

module _ (r : Row) (h : lawful r ≡ true) where
  pub faultless : fault_in r ≡ None
  faultless = none (fault_in r) (and_parts (not (is_some (fault_in r))) _ h).0

  pub thread_fits : r.thread < 64
  thread_fits = search rules

  pub target_fits : has_target r.code ≡ true → r.target < 64
  target_fits t = search rules

  pub task_fits : has_task r.code ≡ true → r.item < 512
  task_fits t = search rules

  pub lock_fits : has_lock r.code ≡ true → r.item < 64
  lock_fits t = search rules

  pub item_fits : r.item < 65536
  item_fits = search rules

  pub delay_fits : r.delay < 4294967296
  delay_fits = ltb-true _ _ (and_parts _ _ (and_parts (not (is_some (fault_in r))) _ h).1).1

  pub no_reserved : r.reserved ≡ 0
  no_reserved =
      eqb-true r.reserved 0
      (not-false _ (passed 3 (zero_tests r) (second (first (number_tests r)) (first (zero_tests r)) faultless)))
