-- One call, by what its contract says; and one call more at the end of a run.
use Rattle.std.proofs.Common.{◌≡◌, ℕ, ◌<◌, ◌≤◌, ◌⊎◌, List, [], ◌∷◌, ◌++◌, length, take, drop, Some, None, sym, ◌∙◌, subst, arith}
use Rattle.std.proofs.lemmas.List.{append-nil}
use Rattle.recording.specs.declared.row.Row.{Row}
use Rattle.happens_before.specs.Order.{Before}
use Rattle.rules.specs.Acceptance.{Setting, refusal}
use Rattle.rules.specs.Answers.{Count, Ordered, Classed, RaceList}
use Rattle.rules.specs.Numbers.{state_number, not_held}
use Rattle.rules.specs.Runs.{
  Call,
  add,
  cut,
  order,
  class,
  list,
  Answer,
  added,
  cut_to,
  ordered,
  classed,
  listed,
  needs,
  refused,
  Step,
  adds,
  refuses,
  cuts,
  cuts_not,
  orders,
  orders_not,
  classes,
  classes_not,
  lists,
  lists_not,
  Run,
  done,
  next,
}
use Rattle.rules.specs.declared.faults.StateFault.{StateFault}
use Rattle.rules.specs.declared.order.Order.{Order}
use Rattle.rules.specs.declared.race.RaceRow.{RaceRow}

module _ (s : Setting) (held : List Row) where
  pub step_adds :
      (o : Row) (p c : ℕ) (after : List Row) → refusal s held o ≡ None → p ≡ length held → after ≡ held ++ o ∷ []
      → Count (length held) (λ i. Before s.precedence after i (length held)) c → Step s held (add o) (added p c) after
  step_adds o p c after fine at e count =
      subst (λ x. Step s held (add o) (added x c) after) (sym at)
      (subst
      (λ (x : List Row). Count (length held) (λ i. Before s.precedence x i (length held)) c → Step s held (add o) (added (length held) c) x)
      (sym e) (adds fine) count)

  pub step_refuses : (o : Row) (f : StateFault) (after : List Row) → refusal s held o ≡ Some f → after ≡ held → Step s held (add o) (refused (state_number f)) after
  step_refuses o f after r e = subst (λ x. Step s held (add o) (refused (state_number f)) x) (sym e) (refuses r)

  pub step_cuts : (n : ℕ) (after : List Row) → n ≤ length held → after ≡ take n held → Step s held (cut n) (cut_to n) after
  step_cuts n after l e = subst (λ x. Step s held (cut n) (cut_to n) x) (sym e) (cuts l)

  pub step_cuts_not : (n : ℕ) (after : List Row) → length held < n → after ≡ held → Step s held (cut n) (refused not_held) after
  step_cuts_not n after l e = subst (λ x. Step s held (cut n) (refused not_held) x) (sym e) (cuts_not l)

  pub step_orders : (i j : ℕ) (w : Order) → i < length held → j < length held → Ordered s.precedence held i j w → Step s held (order i j) (ordered w) held
  step_orders i j w = orders

  pub step_orders_not : (i j : ℕ) → (length held ≤ i) ⊎ (length held ≤ j) → Step s held (order i j) (refused not_held) held
  step_orders_not i j = orders_not

  pub step_classes : (i j c : ℕ) → i < length held → j < length held → Classed s.precedence held i j c → Step s held (class i j) (classed c) held
  step_classes i j c = classes

  pub step_classes_not : (i j : ℕ) → (length held ≤ i) ⊎ (length held ≤ j) → Step s held (class i j) (refused not_held) held
  step_classes_not i j = classes_not

  pub step_lists :
      (n : ℕ) (places after races : List RaceRow) → RaceList s.precedence held races → n ≡ length races → n ≤ length places
      → after ≡ races ++ drop n places → Step s held (list places) (listed n after) held
  step_lists n places after races r e l w =
      subst (λ x. Step s held (list places) (listed n x) held) (sym w)
      (subst (λ x. Step s held (list places) (listed x (races ++ drop x places)) held) (sym e) (lists r (omega arith)))

  pub step_lists_not :
      (n : ℕ) (places after races : List RaceRow) → RaceList s.precedence held races → n ≡ length races → length places < n
      → after ≡ places → Step s held (list places) (needs n after) held
  step_lists_not n places after races r e l w =
      subst (λ x. Step s held (list places) (needs n x) held) (sym w)
      (subst (λ x. Step s held (list places) (needs x places) held) (sym e) (lists_not r (omega arith)))

pub run_push :
    {s : Setting} {held between after : List Row} {calls : List Call} {answers : List Answer} {c : Call} {a : Answer}
    → Run s held calls answers between → Step s between c a after → Run s held (calls ++ c ∷ []) (answers ++ a ∷ []) after
run_push done t = next t done
run_push (next u r) t = next u (run_push r t)

pub none_left : {X : Type 0} (xs rest all : List X) → length rest ≡ 0 → xs ++ rest ≡ all → xs ≡ all
none_left xs [] all n e = sym (append-nil xs) ∙ e
none_left xs (x ∷ rest) all n e = let z : ⊥ = omega arith in absurd z
