-- A refusal is for want of room, for what the tables tell, or for what the discipline tells.
use Rattle.std.proofs.Common.{◌≡◌, ◌<◌, ◌≤◌, Bool, true, false, cond, not, ◌&&◌, ◌||◌, eqb, leb, List, length, is_some, Some, None, Option, Result, sym, refl, ap, ◌∙◌, subst, arith, le-leb, leb-false}
use Rattle.std.proofs.lemmas.Grind.{common_steps}
use borrow.Author.Tests.{clash, lt-leb}
use Rattle.std.proofs.Math.Bool.{and-false}
use Rattle.recording.specs.Codes.{post, begin, end}
use Rattle.recording.specs.Lawful.{or_else}
use Rattle.recording.specs.declared.row.Row.{Row}
use Rattle.rules.specs.Acceptance.{Judged, Setting, busy, current, posted, waits, overtakes, thread_not_ready, wrong_target, wrong_queue, wrong_lock, not_admitted, refusal}
use Rattle.rules.specs.declared.faults.StateFault.{StateFault}
use Rattle.rules.specs.declared.faults.StateFault.TheVariants.{Full, ThreadNotReady, WrongTarget, WrongQueue, WrongLock, OutOfTurn, NotAdmitted}
use Rattle.tables.specs.Matches.{table_refusal}
use Rattle.tables.proofs.Verdicts.{never_overtakes}
use Rattle.examination.specs.Refusals.{discipline_refusal}

-- out of turn with a task that overtakes, and without
turn_parts :
    {F : Type 0} (fault : F) (rest : Option F) (again begins busy late overtaken ends : Bool)
    → cond (again || ((begins && (busy || (late || overtaken))) || ends)) (Some fault) rest
    ≡ or_else (cond (again || ((begins && (busy || (late || false))) || ends)) (Some fault) None)
    (cond (begins && overtaken) (Some fault) rest)
turn_parts f rest u v w x y z = grind (arith, common_steps)

-- a test before both parts
or_else_after :
    {F : Type 0} (b : Bool) (fault : F) (x y z : Option F)
    → x ≡ or_else y z
    → cond b (Some fault) x ≡ or_else (cond b (Some fault) y) z
or_else_after b f x y z e = grind (arith, common_steps)

module _ (s : Setting) (held : List Row) (o : Row) where
  pub refusal_parts :
      refusal s held o
      ≡ cond (leb 512 (length held)) (Some Full) (or_else (table_refusal s.initial held o) (discipline_refusal s held o))
  unfolding refusal table_refusal
  refusal_parts =
      ap (cond (leb 512 (length held)) (Some Full))
      (or_else_after (thread_not_ready s held o) ThreadNotReady _ _ _
      (or_else_after (wrong_target s held o) WrongTarget _ _ _
      (or_else_after (wrong_queue s held o) WrongQueue _ _ _
      (or_else_after (wrong_lock s held o) WrongLock _ _ _
      (turn_parts OutOfTurn (cond (not_admitted s held o) (Some NotAdmitted) None)
      (eqb o.code post && posted held o.item) (eqb o.code begin) (busy held o.thread)
      (not (waits held o.thread o.item)) (overtakes s.precedence held o.thread o.item)
      (eqb o.code end && not (current held o.thread o.item))
      ∙ sym
      (λ i.
      or_else
      (cond
      ((eqb o.code post && posted held o.item)
      || ((eqb o.code begin
      && (busy held o.thread
      || (not (waits held o.thread o.item) || never_overtakes held o.thread o.item i)))
      || (eqb o.code end && not (current held o.thread o.item))))
      (Some OutOfTurn)
      (cond (and-false (eqb o.code post) i) (Some NotAdmitted) None))
      (discipline_refusal s held o)))))))

  -- what is accepted is refused by no part
  pub accepted_parts :
      refusal s held o ≡ None
      → (length held < 512) × (table_refusal s.initial held o ≡ None) × (discipline_refusal s held o ≡ None)
  accepted_parts e = go (leb 512 (length held)) (table_refusal s.initial held o) refl (sym refusal_parts ∙ e)
    where
      go :
          (full : Bool) (f : Option StateFault)
          → leb 512 (length held) ≡ full
          → cond full (Some Full) (or_else f (discipline_refusal s held o)) ≡ None
          → (length held < 512) × (f ≡ None) × (discipline_refusal s held o ≡ None)
      go true f room none = absurd (clash (sym (ap is_some none)))
      go false (Some g) room none = absurd (clash (sym (ap is_some none)))
      go false None room none = (leb-false 512 (length held) room, refl, none)

  pub when_full : 512 ≤ length held → refusal s held o ≡ Some Full
  when_full l =
      refusal_parts
      ∙ ap (λ b. cond b (Some Full) (or_else (table_refusal s.initial held o) (discipline_refusal s held o))) (le-leb 512 (length held) l)

  room : length held < 512 → refusal s held o ≡ or_else (table_refusal s.initial held o) (discipline_refusal s held o)
  room l =
      refusal_parts
      ∙ ap (λ b. cond b (Some Full) (or_else (table_refusal s.initial held o) (discipline_refusal s held o))) (lt-leb 512 (length held) l)

  pub by_tables : (f : StateFault) → length held < 512 → table_refusal s.initial held o ≡ Some f → refusal s held o ≡ Some f
  by_tables f l e = room l ∙ ap (λ x. or_else x (discipline_refusal s held o)) e

  pub by_discipline :
      (r : Result Unit StateFault) → length held < 512 → table_refusal s.initial held o ≡ None
      → Judged (discipline_refusal s held o) r → Judged (refusal s held o) r
  by_discipline r l e =
      subst (λ x. Judged x r) (sym (room l ∙ ap (λ x. or_else x (discipline_refusal s held o)) e))
