-- The race list as it is written: by rising later position, then by rising earlier.
use Rattle.std.specs.Prelude.{◌≡◌, ℕ, zero, suc, ◌<◌, ◌≤◌, min, cond, List, [], ◌∷◌, ◌++◌, length, take, drop, Ok, Err, Result}
use Rattle.recording.specs.declared.row.Row.{Row}
use Rattle.columns.specs.declared.column.Column.{Column}
use Rattle.rules.specs.Answers.{In}
use Rattle.rules.specs.Numbers.{race_number, Passes}
use Rattle.rules.specs.declared.faults.TooShort.{TooShort}
use Rattle.rules.specs.declared.race.RaceRow.{RaceRow}
use Rattle.races.specs.declared.nearest.NearestPosts.{NearestPosts}
use Rattle.races.specs.Classes.{racing, class_at}

-- what f gives of each number below n, in turn
unfoldable pub gathered : (ℕ → List RaceRow) → ℕ → List RaceRow
gathered f zero = []
gathered f (suc n) = gathered f n ++ f n

abbrev pub race_row : List Row → List Column → List NearestPosts → ℕ → ℕ → RaceRow
race_row rows columns nearests j i =
    record { earlier = i; later = j; class = race_number (class_at rows columns nearests i j) }

-- the row of i and j, where they race
abbrev pub race_of : List Row → List Column → List NearestPosts → ℕ → ℕ → List RaceRow
race_of rows columns nearests j i = cond (racing rows columns i j) (race_row rows columns nearests j i ∷ []) []

-- the races of j with earlier positions
abbrev pub races_of : List Row → List Column → List NearestPosts → ℕ → List RaceRow
races_of rows columns nearests j = gathered (race_of rows columns nearests j) j

-- the races among the first n positions
abbrev pub races_below : List Row → List Column → List NearestPosts → ℕ → List RaceRow
races_below rows columns nearests n = gathered (races_of rows columns nearests) n

-- all races among the first 512 positions
abbrev pub all_races : List Row → List Column → List NearestPosts → List RaceRow
all_races rows columns nearests = races_below rows columns nearests (min (length rows) 512)

-- ---- What is left in the lent places

-- the written rows each make a race record, and the places past them keep what they held; none is written where they are too few
abbrev pub Kept : List RaceRow → List RaceRow → Result ℕ TooShort → Type 0
Kept before after (Ok n) =
    (n ≤ length before) × (drop n after ≡ drop n before) × ((r : RaceRow) → In r (take n after) → Passes r)
Kept before after (Err e) = (length before < e.needed) × (after ≡ before)

-- the races stand in the first places, or are more than the places
abbrev pub Listed : List RaceRow → List RaceRow → List RaceRow → Result ℕ TooShort → Type 0
Listed races before after (Ok n) = (n ≡ length races) × (after ≡ races ++ drop n before)
Listed races before after (Err e) = e.needed ≡ length races
