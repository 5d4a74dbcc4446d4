-- The operations of a task, and those before a thread loops.
use Rattle.std.proofs.Common.{◌≡◌, ℕ, ◌<◌, ◌≤◌, true, false, ◌⊎◌, List, length, take, sym, ap, ◌∙◌, inl, inr, ⊎_elim, arith}
use borrow.Author.Tests.{both_ways}
use Rattle.std.specs.Bool.{Decides}
use Rattle.std.proofs.lemmas.Bool.Decides.{Decides-eqb, Decides-and, Decides-like}
use Rattle.std.proofs.lemmas.Bool.{cases_Bool, cases_eq, or_cases, or_left, or_right}
use Rattle.std.proofs.lemmas.List.{length-take-le}
use Rattle.recording.specs.Codes.{begin, end}
use Rattle.recording.specs.declared.row.Row.{Row}
use Rattle.happens_before.specs.Trace.{row, code, thread, Belongs}
use Rattle.rules.specs.Acceptance.{does_on, current}
use Rattle.rules.proofs.Places.{lasting_before, lasting_found, row_before, length_before}
use Rattle.index.specs.Indexed.{member_at}

pub does_on_is : (c t p : ℕ) (r : Row) → Decides (does_on c t p r) ((r.code ≡ c) × (r.thread ≡ t) × (r.item ≡ p))
does_on_is c t p r =
    Decides-like _ (λ ((d, u), i). (d, u, i)) (λ (d, u, i). ((d, u), i))
    (Decides-and _ _ (Decides-and _ _ (Decides-eqb r.code c) (Decides-eqb r.thread t)) (Decides-eqb r.item p))

not_done : (c t p : ℕ) (r : Row) → ((r.code ≡ c) × (r.thread ≡ t) × (r.item ≡ p) → ⊥) → does_on c t p r ≡ false
not_done c t p r n =
    ⊎_elim (λ (h : does_on c t p r ≡ true). absurd (n ((does_on_is c t p r).0 h))) (λ e. e) (cases_Bool (does_on c t p r))

module _ (trace : List Row) (i p : ℕ) (held : i < length trace) where
  pub member_sound : member_at (take i trace) p (row trace i) ≡ true → Belongs trace i p
  member_sound h = go (or_cases (current (take i trace) (thread trace i) p) _ h)
    where
      go :
          (current (take i trace) (thread trace i) p ≡ true) ⊎ (does_on begin (thread trace i) p (row trace i) ≡ true)
          → Belongs trace i p
      go (inl e) =
          let r = lasting_found (does_on begin (thread trace i) p) (does_on end (thread trace i) p) (take i trace) e in
          let b = r.0 in
          let u = r.1 in
          let v = length_before trace i in
          let bi : b < i = omega arith in
          let w = (does_on_is begin (thread trace i) p (row (take i trace) b)).0 r.2.0 in
          let at = row_before trace i b bi in (
            b,
            (omega arith),
            (sym (ap (λ r. r.code) at) ∙ w.0, sym (ap (λ r. r.thread) at) ∙ w.1, sym (ap (λ r. r.item) at) ∙ w.2),
            λ e be ei d.
                ⊎_elim
                (λ (q : b ≡ e).
                let c1 : code trace b ≡ 8 = sym (ap (λ r. r.code) at) ∙ w.0 in
                let c2 : code trace b ≡ 9 = ap (code trace) q ∙ d.0 in
                omega arith)
                (λ (q : b ≡ e → ⊥).
                let x = length-take-le i trace (let y : i ≤ length trace = omega arith in y) in
                both_ways _
                (r.2.1 e (omega arith) (omega arith))
                (ap (does_on end (thread trace i) p) (row_before trace i e ei) ∙ (does_on_is end (thread trace i) p (row trace e)).1 d))
                (cases_eq b e),
          )
      go (inr e) =
          let w = (does_on_is begin (thread trace i) p (row trace i)).0 e in
          (i, omega arith, w, λ e l u d. let z : ⊥ = omega arith in z)

  pub member_full : Belongs trace i p → member_at (take i trace) p (row trace i) ≡ true
  member_full (b, bi, w, n) =
      ⊎_elim
      (λ (e : b ≡ i).
      or_right (current (take i trace) (thread trace i) p) _
      (ap (λ k. does_on begin (thread trace i) p (row trace k)) (sym e) ∙ (does_on_is begin (thread trace i) p (row trace b)).1 w))
      (λ (e : b ≡ i → ⊥).
      or_left (current (take i trace) (thread trace i) p) _
      (lasting_before trace i (does_on begin (thread trace i) p) (does_on end (thread trace i) p) b (omega arith) (omega arith)
      ((does_on_is begin (thread trace i) p (row trace b)).1 w)
      (λ k u v. not_done end (thread trace i) p (row trace k) (λ d. n k (omega arith) v d))))
      (cases_eq b i)
