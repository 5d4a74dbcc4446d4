use Rattle.std.proofs.Common.{◌≡◌, ℕ, zero, suc, ◌+◌, ◌<◌, ◌≤◌, false, List, get_or, rules, arith, sym, refl, ◌∙◌, subst, ⊎_elim}
use Rattle.std.proofs.lemmas.Bool.{cases_order}
use Rattle.std.specs.Array.{IsFromFnResultFrom}
use denote.Param.Members.{Mut, Called}
use Rattle.recording.specs.Masks.{bit}
use Rattle.tables.specs.Records.{unstarted}
use Rattle.tables.proofs.tables.first_threads.Goals as goal

-- calls of a closure that changes nothing that it captures give what v says of each index
module _
    {F B : Type 0} (g : Mut F (ℕ × Unit {0}) B) (v : ℕ → B) (Same : F → Type 0) (ys : List B) (d : B)
    (step : (p q : F) (i : ℕ) (y : B) → Same p → Called g p (i, tt) y q → (y ≡ v i) × Same q) where
  made :
      (n i : ℕ) (f : F) → Same f → IsFromFnResultFrom g f ys i n → (t : ℕ) → i ≤ t → t < i + n → get_or ys t d ≡ v t
  made zero i f s e t low high = absurd (omega arith)
  made (suc n) i f s e t low high =
      let h = step f e.0 i e.1 s e.3 in
      ⊎_elim
      (λ (q : t ≡ i). subst (λ k. get_or ys k d ≡ v k) (sym q) (e.2.1 d ∙ h.0))
      (⊎_elim
      (λ (l : t < i). absurd (omega arith))
      (λ (l : i < t). made n (i + 1) e.0 h.1 e.4 t (omega arith) (omega arith)))
      (cases_order t i)

pub returns-clause-each : goal.returns-clause-each
returns-clause-each c t l =
    made _ (λ n. unstarted (bit c.args.mask n)) (λ f. f.0.now ≡ c.args.mask) c.from_fn.result (unstarted false)
    (λ p q i y s k. (search rules, search rules))
    64 0 _ refl c.from_fn.ensures.items.each t (omega arith) l
