-- Races and classes as tests on rows, columns and nearest posts.
use Rattle.std.specs.Prelude.{ℕ, Bool, true, false, cond, not, ◌&&◌, ◌||◌, List, Some, None, Option, ◌==◌}
use Rattle.recording.specs.Codes.{read, write}
use Rattle.recording.specs.declared.row.Row.{Row}
use Rattle.columns.specs.declared.column.Column.{Column}
use Rattle.happens_before.specs.Trace.{row}
use Rattle.happens_before.specs.Order.{Precedence}
use Rattle.happens_before.specs.Theorems.{PostedFirst}
use Rattle.rules.specs.Columns.{pairs_in, Right}
use Rattle.rules.specs.declared.race.RaceClass.{RaceClass}
use Rattle.rules.specs.declared.race.RaceClass.TheVariants.{MultiThreaded, CoEnabled, Delayed, CrossPosted, Unknown}
use Rattle.races.specs.declared.nearest.NearestPosts.{NearestPosts}
use Rattle.races.specs.Chains.{nearest_at, NearestRight}

-- for every precedence by which the columns are right, where the nearest posts are right too
abbrev pub WhereRight : List Row → List Column → List NearestPosts → (Precedence → Type 0) → Type 0
WhereRight held columns nearests P =
    (D : Precedence) → PostedFirst held → Right D held columns → NearestRight held nearests → P D

abbrev pub accesses : Row → Bool
accesses r = r.code == write || r.code == read

-- both accesses touch one location, and one writes
abbrev pub conflicting : Row → Row → Bool
conflicting a b =
    (a.item == b.item)
    && ((a.code == write && accesses b) || (a.code == read && b.code == write))

-- they conflict, and the column of the later lacks the earlier
abbrev pub racing : List Row → List Column → ℕ → ℕ → Bool
racing rows columns i j = conflicting (row rows i) (row rows j) && not (pairs_in columns i j)

-- only one is there, or they differ
abbrev pub differs : Option ℕ → Option ℕ → Bool
differs None None = false
differs None (Some b) = true
differs (Some a) None = true
differs (Some a) (Some b) = not (a == b)

-- both are there, they differ, and the first is not before the second
abbrev pub unordered : List Column → Option ℕ → Option ℕ → Bool
unordered columns None None = false
unordered columns None (Some b) = false
unordered columns (Some a) None = false
unordered columns (Some a) (Some b) = not (a == b) && not (pairs_in columns a b)

-- the class of two racing operations of one thread, by their nearest posts
abbrev pub class_on_thread : List Column → NearestPosts → NearestPosts → RaceClass
class_on_thread columns p q =
    cond (unordered columns p.environment q.environment) CoEnabled
    (cond (differs p.delayed q.delayed) Delayed (cond (differs p.foreign q.foreign) CrossPosted Unknown))

abbrev pub class_at : List Row → List Column → List NearestPosts → ℕ → ℕ → RaceClass
class_at rows columns nearests i j =
    cond (not ((row rows i).thread == (row rows j).thread)) MultiThreaded
    (class_on_thread columns (nearest_at nearests i) (nearest_at nearests j))
