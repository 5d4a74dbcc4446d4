-- The number of each dispatch discipline.
use Rattle.std.specs.Prelude.{ℕ, [], ◌∷◌, slice_index_or}
use Rattle.recording.specs.declared.discipline.DisciplineKind.{DisciplineKind}
use Rattle.recording.specs.declared.discipline.DisciplineKind.TheVariants.{FirstInFirstOut, AnyOrder, Timed}

abbrev pub discipline_number : DisciplineKind → ℕ
discipline_number FirstInFirstOut = 0
discipline_number AnyOrder = 1
discipline_number Timed = 2

-- the discipline with this number; from 3 on there is none, and no header that names one is lawful
abbrev pub discipline_at : ℕ → DisciplineKind
discipline_at n = slice_index_or (FirstInFirstOut ∷ AnyOrder ∷ Timed ∷ []) n Timed
