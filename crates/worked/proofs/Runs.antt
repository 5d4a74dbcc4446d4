-- The run of an example: its operations added in turn, then those that are refused.
use Rattle.std.proofs.Common.{◌≡◌, ℕ, suc, ◌+◌, ◌<◌, true, List, [], ◌∷◌, ◌++◌, map, length, get_or, sym, ap, ◌∙◌, subst, append_assoc, append-nil, arith}
use Rattle.std.proofs.lemmas.List.{length_push, length-append}
use Rattle.recording.specs.Rows.{blank}
use Rattle.recording.specs.declared.row.Row.{Row}
use Rattle.happens_before.specs.Order.{Before}
use Rattle.happens_before.specs.Theorems.{PostedFirst}
use Rattle.happens_before.proofs.Extended.{extended_before}
use Rattle.rules.specs.Answers.{Count}
use Rattle.rules.specs.Runs.{Call, add, Answer, added, Step, adds, Run, next}
use Rattle.worked.specs.Recordings.{Example, operations, listed_before, precedence, setting, added_from, among}
use Rattle.worked.proofs.Acceptance.{accepts, accepts_one}
use Rattle.worked.proofs.Lines.{right_order, line_at, before_listed}

module _
    (e : Example)
    (right : right_order e ≡ true)
    (posted : PostedFirst (operations e))
  where
    -- what is listed beside an operation is before it when it is added
    count :
        (held : List Row) (o : Row) (more : List Row)
        → (held ++ o ∷ []) ++ more ≡ operations e
        → Count (length held) (λ i. Before (precedence e) (held ++ o ∷ []) i (length held)) (length (listed_before e (length held)))
    count held o more whole =
        let n = length_push held o in
        let m = length-append (held ++ o ∷ []) more in
        let w = ap length whole in
        let u : length held < length (operations e) = omega arith in
        record {
          test = λ i. among i (listed_before e (length held));
          tells =
              λ i l.
              let b = before_listed e right posted i (length held) in
              let x =
              extended_before (held ++ o ∷ []) more (precedence e) (subst PostedFirst (sym whole) posted) i (length held)
              (omega arith)
              in (
                λ h. x.0 (subst (λ ops. Before (precedence e) ops i (length held)) (sym whole) (b.1 h)),
                λ h. b.0 (subst (λ ops. Before (precedence e) ops i (length held)) whole (x.1 h)),
              );
          counted = (line_at e right (length held) u).counted;
        }

    pub run_from :
        (calls : List Call) (answers : List Answer)
        → Run (setting e) (operations e) calls answers (operations e)
        → (held : List Row) (n : ℕ) (lines : List (Row × List ℕ))
        → n ≡ length held
        → held ++ map (λ l. l.0) lines ≡ operations e
        → ((k : ℕ) → (get_or lines k (blank, [])).1 ≡ listed_before e (n + k))
        → accepts (setting e) held (map (λ l. l.0) lines) ≡ true
        → Run (setting e) held (map add (map (λ l. l.0) lines) ++ calls) (added_from n lines ++ answers) (operations e)
    run_from calls answers rest held n [] is whole at h =
        subst (λ ops. Run (setting e) ops calls answers (operations e)) (sym (sym (append-nil held) ∙ whole)) rest
    run_from calls answers rest held n (l ∷ lines) is whole at h =
        let o = l.0 in
        let more = map (λ (l : Row × List ℕ). l.0) lines in
        let (_, none, g) = accepts_one (setting e) held o more h in
        let whole' : (held ++ o ∷ []) ++ more ≡ operations e = append_assoc held (o ∷ []) more ∙ whole in
        let p = length_push held o in
        let c : length (listed_before e (length held)) ≡ length l.1 =
        ap (λ k. length (listed_before e k)) (let q : length held ≡ n + 0 = omega arith in q) ∙ ap length (sym (at 0))
        in
        let step : Step (setting e) held (add o) (added n (length l.1)) (held ++ o ∷ []) =
        subst (λ k. Step (setting e) held (add o) (added k (length l.1)) (held ++ o ∷ [])) (sym is)
        (adds none
        (subst (Count (length held) (λ i. Before (precedence e) (held ++ o ∷ []) i (length held))) c
        (count held o more whole')))
        in
        next step
        (run_from calls answers rest (held ++ o ∷ []) (suc n) lines (omega arith) whole'
        (λ k. at (suc k) ∙ ap (listed_before e) (let q : n + suc k ≡ suc n + k = omega arith in q)) g)
