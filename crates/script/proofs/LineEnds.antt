-- The lines of a text.
use Rattle.std.proofs.Common.{◌≡◌, ℕ, zero, suc, ◌<◌, List, [], ◌∷◌, length, get_or, Some, None, Option, Bor, MatchOption, sym, refl, ap, ◌∙◌, subst, inl, inr, ⊎_elim, arith, length-append}
use Rattle.std.proofs.lemmas.List.{nil_from_length}
use Rattle.std.proofs.lemmas.Bool.{cases_eq}
use Rattle.script.specs.Lines.{name_of, words_of, line_text, LineFits}
use Rattle.script.specs.Texts.{Read, FirstLine, Lines, empty, begins}
use Rattle.script.specs.declared.line.Line.{Line}

-- what the first line is read as, where there may be no line
pub first_read :
    (text rest : List ℕ) (first : Option (Bor (List ℕ))) (r : Option Line)
    → MatchOption first ((length text ≡ 0) × (rest ≡ text)) (λ line. (0 < length text) × FirstLine text line.now rest)
    → MatchOption first (r ≡ None) (λ line. Read LineFits line_text line.now r)
    → (line : List ℕ) × FirstLine text line rest × Read LineFits line_text line r
first_read text rest (Some line) r taken reads = (line.now, taken.1, reads)
first_read text rest None r over none =
    let empty = nil_from_length text over.0 in (
      [],
      ((λ i lt. omega arith), inr (empty, over.1 ∙ empty)),
      subst (Read LineFits line_text []) (sym none)
          (λ l fits e. omega (arith, ap length e, length-append (name_of l) (32 ∷ words_of l))),
    )

-- ---- All lines: with one byte more at the start of the first

longer_clear :
    (b : ℕ) (line : List ℕ)
    → (b ≡ 10 → ⊥)
    → ((i : ℕ) → i < length line → get_or line i 0 ≡ 10 → ⊥)
    → (i : ℕ) → i < length (b ∷ line) → get_or (b ∷ line) i 0 ≡ 10 → ⊥
longer_clear b line other clear zero h e = other e
longer_clear b line other clear (suc i) h e = clear i (omega arith) e

longer : (b : ℕ) {text line rest : List ℕ} → (b ≡ 10 → ⊥) → FirstLine text line rest → FirstLine (b ∷ text) (b ∷ line) rest
longer b {text} {line} {rest} other f = (
  longer_clear b line other f.0,
  ⊎_elim (λ e. inl (ap (λ l. b ∷ l) e)) (λ e. inr (ap (λ l. b ∷ l) e.0, e.1)) f.1,
)

with_first :
    (b : ℕ) (bs : List ℕ) (lines : List (List ℕ)) → (b ≡ 10 → ⊥) → Lines bs lines → (all : List (List ℕ)) × Lines (b ∷ bs) all
with_first b [] lines other empty =
    ((b ∷ []) ∷ [], begins (omega arith) (longer b {line = []} other ((λ i h e. omega arith), inr (refl, refl))) empty)
with_first b bs lines other (begins {line = line} {lines = rest} some first ls) =
    ((b ∷ line) ∷ rest, begins (omega arith) (longer b other first) ls)

pub lines_of : (text : List ℕ) → (lines : List (List ℕ)) × Lines text lines
lines_of [] = ([], empty)
lines_of (b ∷ bs) =
    let l = lines_of bs in
    ⊎_elim
    (λ e. ([] ∷ l.0, begins (omega arith) ((λ i h k. omega arith), inl (ap (λ c. c ∷ bs) e)) l.1))
    (λ other. with_first b bs l.0 other l.1)
    (cases_eq b 10)
