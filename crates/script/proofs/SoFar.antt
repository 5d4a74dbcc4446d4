-- What the lines of a text are read as, one line further.
use Rattle.std.proofs.Common.{◌≡◌, ℕ, suc, ◌+◌, ◌<◌, List, [], ◌∷◌, ◌++◌, length, Some, None, Err, Option, sym, ap, ◌∙◌, subst, subst₂, ⊎_elim, append_assoc, append-nil, arith, length-append}
use Rattle.std.proofs.lemmas.List.{nil_from_length}
use Rattle.rules.specs.Runs.{Call}
use Rattle.script.specs.Lines.{line_text, LineFits}
use Rattle.script.specs.Readings.{Reads, ends, called, not_called, stops, ReadAs, Step, steps_of, calls_of, Takes, TakesOr}
use Rattle.script.specs.Texts.{Read, FirstLine, Lines, empty, begins}
use Rattle.script.specs.declared.fault.AtLine.{AtLine}
use Rattle.script.specs.declared.fault.LineFault.{LineFault}
use Rattle.script.specs.declared.line.Line.{Line}
use Rattle.script.specs.declared.read.Script.{Script}
use Rattle.script.proofs.LineEnds.{lines_of}

-- whatever the rest is read as, the text is read as these steps and calls and then that
abbrev pub SoFar : List ℕ → List ℕ → ℕ → List Step → List Call → Type 0
SoFar text rest left taken made =
    (lines : List (List ℕ)) (steps : List Step) (calls : List Call) (stop : Option AtLine)
    → Lines rest lines
    → Reads (length taken + 2) left lines steps calls stop
    → ReadAs text (taken ++ steps) (made ++ calls) stop

module _ (text rest line after : List ℕ) (some : 0 < length rest) (first : FirstLine rest line after) where
  one_more :
      (left less : ℕ) (taken taken' : List Step) (made made' : List Call) (step : Step) (new : List Call)
      → SoFar text rest left taken made
      → ((n : ℕ) (lines : List (List ℕ)) (steps : List Step) (calls : List Call) (stop : Option AtLine)
      → Reads (suc n) less lines steps calls stop
      → Reads n left (line ∷ lines) (step ∷ steps) (new ++ calls) stop)
      → taken' ≡ taken ++ step ∷ []
      → made' ≡ made ++ new
      → SoFar text after less taken' made'
  one_more left less taken taken' made made' step new so_far grows e f lines steps calls stop ls rs =
      let n : length taken' + 2 ≡ suc (length taken + 2) = omega (arith, ap length e, length-append taken (step ∷ [])) in
      let whole =
      so_far (line ∷ lines) (step ∷ steps) (new ++ calls) stop (begins some first ls)
      (grows (length taken + 2) lines steps calls stop (subst (λ k. Reads k less lines steps calls stop) n rs))
      in
      subst₂ (λ xs ys. ReadAs text xs ys stop)
      (sym (ap (λ xs. xs ++ steps) e ∙ append_assoc taken (step ∷ []) steps))
      (sym (ap (λ ys. ys ++ calls) f ∙ append_assoc made new calls)) whole

  pub taken_more :
      (s t : Script) (l : Option Line)
      → Read LineFits line_text line l
      → Takes s l t
      → s.stop ≡ None
      → SoFar text rest s.left (steps_of s) (calls_of s)
      → (t.stop ≡ None) × SoFar text after t.left (steps_of t) (calls_of t)
  taken_more s t l read takes goes so_far =
      ⊎_elim
      (λ h. (
        h.2.2 ∙ goes,
        one_more s.left t.left (steps_of s) (steps_of t) (calls_of s) (calls_of t) _ _ so_far
            (λ n lines steps calls stop r. called (l, read, h.1) r) h.2.0 h.2.1,
      ))
      (λ h. (
        h.2.2 ∙ goes,
        one_more s.left t.left (steps_of s) (steps_of t) (calls_of s) (calls_of t) _ _ so_far
            (λ n lines steps calls stop r. not_called (l, read, h.1) r) h.2.0 h.2.1,
      ))
      takes

  pub stopped :
      (s t : Script) (l : Option Line) (f : LineFault) (n : ℕ)
      → Read LineFits line_text line l
      → TakesOr s l (Err f) t
      → n ≡ length (steps_of t) + 2
      → SoFar text rest s.left (steps_of s) (calls_of s)
      → ReadAs text (steps_of t) (calls_of t) (Some (record { number = n; fault = f }))
  stopped s t l f n read takes at so_far =
      let ls = lines_of after in
      let whole =
      so_far (line ∷ ls.0) [] [] (Some (record { number = length (steps_of s) + 2; fault = f })) (begins some first ls.1)
      (stops (l, read, takes.0))
      in
      let P : Script → Type 0 =
      λ x. n ≡ length (steps_of x) + 2 → ReadAs text (steps_of x) (calls_of x) (Some (record { number = n; fault = f }))
      in
      subst P (sym takes.1)
      (λ here.
      subst (λ k. ReadAs text (steps_of s) (calls_of s) (Some (record { number = k; fault = f }))) (sym here)
      (subst₂ (λ xs ys. ReadAs text xs ys (Some (record { number = length (steps_of s) + 2; fault = f })))
      (append-nil (steps_of s)) (append-nil (calls_of s)) whole))
      at

pub all_read :
    (text rest : List ℕ) (s : Script)
    → length rest ≡ 0
    → s.stop ≡ None
    → SoFar text rest s.left (steps_of s) (calls_of s)
    → ReadAs text (steps_of s) (calls_of s) s.stop
all_read text rest s long goes so_far =
    let over : Lines rest [] = subst (λ bs. Lines bs []) (sym (nil_from_length rest long)) empty in
    let whole = so_far [] [] [] None over ends in
    subst (λ stop. ReadAs text (steps_of s) (calls_of s) stop) (sym goes)
    (subst₂ (λ xs ys. ReadAs text xs ys None) (append-nil (steps_of s)) (append-nil (calls_of s)) whole)
