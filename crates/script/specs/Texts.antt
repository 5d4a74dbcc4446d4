-- Texts of numbers, and what it is to read a text.
use Rattle.std.specs.Prelude.{◌≡◌, ℕ, ◌<◌, ◌⊎◌, List, [], ◌∷◌, ◌++◌, length, decimal, Option, MatchOption, ◌≢◌, slice_index}

-- of the values that may stand there, the one with this text, or none where none has it
abbrev pub Read : {A : Type 0} → (A → Type 0) → (A → List ℕ) → List ℕ → Option A → Type 0
Read May text bs r = MatchOption r ((x : _) → May x → text x ≢ bs) (λ x. May x × (text x ≡ bs))

-- a word, one space, and the words after it
abbrev pub before : List ℕ → List ℕ → List ℕ
before word words = word ++ (32 ∷ words)

abbrev pub two : ℕ → ℕ → List ℕ
two n m = before (decimal n) (decimal m)

-- the bytes up to the first byte 10, and those after it; all, where there is none
abbrev pub FirstLine : List ℕ → List ℕ → List ℕ → Type 0
FirstLine text line rest =
    ((i : ℕ) → i < length line → slice_index line i ≢ 10) × ((text ≡ line ++ (10 ∷ rest)) ⊎ ((text ≡ line) × (rest ≡ [])))

-- the lines of a text: each ends with byte 10, which may be missing after the last
pub data Lines : List ℕ → List (List ℕ) → Type 0 where
  empty : Lines [] []
  begins :
      {text line rest : List ℕ} {lines : List (List ℕ)}
      → 0 < length text
      → FirstLine text line rest
      → Lines rest lines
      → Lines text (line ∷ lines)
