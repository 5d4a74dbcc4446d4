-- The table of worked recordings. A row is a code, a thread, a task, lock or location, and a target;
-- beside it stand the positions that are before it.
use Rattle.std.specs.Prelude.{◌≡◌, ℕ, true, false, List, [], ◌∷◌, ◌++◌, map, Some, None, codes}
use Rattle.std.specs.List.{AllByRecursion}
use Rattle.recording.specs.Codes.{threadinit, attach_q, loop_on_q, post, begin, end, acquire, release, read, write}
use Rattle.recording.specs.Posts.{marks_number, delay_number}
use Rattle.recording.specs.Rows.{plain}
use Rattle.recording.specs.declared.discipline.DisciplineKind.{DisciplineKind}
use Rattle.recording.specs.declared.discipline.DisciplineKind.TheVariants.{FirstInFirstOut, AnyOrder, Timed}
use Rattle.recording.specs.declared.marks.Marks.{Marks}
use Rattle.recording.specs.declared.row.Row.{Row}
use Rattle.dispatch.specs.Recorded.{precedence_of}
use Rattle.rules.specs.Numbers.{race_number}
use Rattle.rules.specs.declared.race.RaceClass.{RaceClass}
use Rattle.rules.specs.declared.race.RaceClass.TheVariants.{MultiThreaded, CoEnabled, CrossPosted, Unknown}
use Rattle.rules.specs.declared.race.RaceRow.{RaceRow}
use Rattle.reporting.specs.Reports.{Reported}
use Rattle.worked.specs.Recordings.{Example, file, Stands}

abbrev pub race : ℕ → ℕ → RaceClass → RaceRow
race i j class = record { earlier = i; later = j; class = race_number class }

-- thread t posts task p to thread u, with marks
abbrev pub marked_post : ℕ → ℕ → ℕ → Marks → Row
marked_post t p u m =
    record {
      code = post;
      thread = t;
      item = p;
      target = u;
      marks = marks_number m;
      reserved = 0;
      delay = delay_number m;
    }

abbrev pub at_once : Marks
at_once = record { environment = false; delay = None }

abbrev pub after : ℕ → Marks
after n = record { environment = false; delay = Some n }

abbrev pub environment : Marks
environment = record { environment = true; delay = None }

-- ---- Two panels

abbrev pub first_five : List (Row × List ℕ)
first_five =
    (plain threadinit 0 0 0, [])
    ∷ (plain threadinit 1 0 0, [])
    ∷ (plain attach_q 0 0 0, 0 ∷ [])
    ∷ (plain loop_on_q 0 0 0, 0 ∷ 2 ∷ [])
    ∷ (plain post 1 5 0, 0 ∷ 1 ∷ 2 ∷ [])
    ∷ []

abbrev pub two_panels : Example
two_panels =
    record {
      discipline = FirstInFirstOut;
      mask = 3;
      lines =
          first_five
          ++ (plain write 1 9 0, 0 ∷ 1 ∷ 2 ∷ 4 ∷ [])
          ∷ (plain begin 0 5 0, 0 ∷ 1 ∷ 2 ∷ 3 ∷ 4 ∷ [])
          ∷ (plain read 0 9 0, 0 ∷ 1 ∷ 2 ∷ 3 ∷ 4 ∷ 6 ∷ [])
          ∷ (plain end 0 5 0, 0 ∷ 1 ∷ 2 ∷ 3 ∷ 4 ∷ 6 ∷ 7 ∷ [])
          ∷ [];
      races = race 5 7 MultiThreaded ∷ [];
      refused = [];
    }

-- ---- One thread posts twice

abbrev pub first_six : List (Row × List ℕ)
first_six = first_five ++ (plain post 1 6 0, 0 ∷ 1 ∷ 2 ∷ 4 ∷ []) ∷ []

abbrev pub first_nine : List (Row × List ℕ)
first_nine =
    first_six
    ++ (plain begin 0 5 0, 0 ∷ 1 ∷ 2 ∷ 3 ∷ 4 ∷ [])
    ∷ (plain write 0 9 0, 0 ∷ 1 ∷ 2 ∷ 3 ∷ 4 ∷ 6 ∷ [])
    ∷ (plain end 0 5 0, 0 ∷ 1 ∷ 2 ∷ 3 ∷ 4 ∷ 6 ∷ 7 ∷ [])
    ∷ []

abbrev pub posts_twice : Example
posts_twice =
    record {
      discipline = FirstInFirstOut;
      mask = 3;
      lines =
          first_nine
          ++ (plain begin 0 6 0, 0 ∷ 1 ∷ 2 ∷ 3 ∷ 4 ∷ 5 ∷ 6 ∷ 7 ∷ 8 ∷ [])
          ∷ (plain write 0 9 0, 0 ∷ 1 ∷ 2 ∷ 3 ∷ 4 ∷ 5 ∷ 6 ∷ 7 ∷ 8 ∷ 9 ∷ [])
          ∷ (plain end 0 6 0, 0 ∷ 1 ∷ 2 ∷ 3 ∷ 4 ∷ 5 ∷ 6 ∷ 7 ∷ 8 ∷ 9 ∷ 10 ∷ [])
          ∷ [];
      races = [];
      refused = [];
    }

abbrev pub posts_twice_in_any_order : Example
posts_twice_in_any_order =
    record {
      discipline = AnyOrder;
      mask = 3;
      lines =
          first_nine
          ++ (plain begin 0 6 0, 0 ∷ 1 ∷ 2 ∷ 3 ∷ 4 ∷ 5 ∷ [])
          ∷ (plain write 0 9 0, 0 ∷ 1 ∷ 2 ∷ 3 ∷ 4 ∷ 5 ∷ 9 ∷ [])
          ∷ (plain end 0 6 0, 0 ∷ 1 ∷ 2 ∷ 3 ∷ 4 ∷ 5 ∷ 9 ∷ 10 ∷ [])
          ∷ [];
      races = race 7 10 CrossPosted ∷ [];
      refused = [];
    }

-- the second task is to begin first
abbrev pub overtaking : Example
overtaking =
    record {
      discipline = FirstInFirstOut;
      mask = 3;
      lines = first_six;
      races = [];
      refused = (plain begin 0 6 0, 16) ∷ [];
    }

abbrev pub overtaking_in_any_order : Example
overtaking_in_any_order =
    record {
      discipline = AnyOrder;
      mask = 3;
      lines = first_six ++ (plain begin 0 6 0, 0 ∷ 1 ∷ 2 ∷ 3 ∷ 4 ∷ 5 ∷ []) ∷ [];
      races = [];
      refused = [];
    }

-- ---- Run to completion does not want the end before the post

abbrev pub task_posts : Example
task_posts =
    record {
      discipline = AnyOrder;
      mask = 3;
      lines =
          first_five
          ++ (plain begin 0 5 0, 0 ∷ 1 ∷ 2 ∷ 3 ∷ 4 ∷ [])
          ∷ (plain post 0 6 0, 0 ∷ 1 ∷ 2 ∷ 3 ∷ 4 ∷ 5 ∷ [])
          ∷ (plain write 0 9 0, 0 ∷ 1 ∷ 2 ∷ 3 ∷ 4 ∷ 5 ∷ 6 ∷ [])
          ∷ (plain end 0 5 0, 0 ∷ 1 ∷ 2 ∷ 3 ∷ 4 ∷ 5 ∷ 6 ∷ 7 ∷ [])
          ∷ (plain begin 0 6 0, 0 ∷ 1 ∷ 2 ∷ 3 ∷ 4 ∷ 5 ∷ 6 ∷ 7 ∷ 8 ∷ [])
          ∷ (plain write 0 9 0, 0 ∷ 1 ∷ 2 ∷ 3 ∷ 4 ∷ 5 ∷ 6 ∷ 7 ∷ 8 ∷ 9 ∷ [])
          ∷ [];
      races = [];
      refused = [];
    }

-- ---- Queue order asks whether the posts are ordered; a tie is never settled by a number

-- thread t posts task 5, thread u posts task 6
abbrev pub two_posters : ℕ → ℕ → List (Row × List ℕ)
two_posters t u =
    (plain threadinit 0 0 0, [])
    ∷ (plain threadinit t 0 0, [])
    ∷ (plain threadinit u 0 0, [])
    ∷ (plain attach_q 0 0 0, 0 ∷ [])
    ∷ (plain loop_on_q 0 0 0, 0 ∷ 3 ∷ [])
    ∷ (plain post t 5 0, 0 ∷ 1 ∷ 3 ∷ [])
    ∷ (plain post u 6 0, 0 ∷ 2 ∷ 3 ∷ [])
    ∷ (plain begin 0 5 0, 0 ∷ 1 ∷ 3 ∷ 4 ∷ 5 ∷ [])
    ∷ (plain write 0 9 0, 0 ∷ 1 ∷ 3 ∷ 4 ∷ 5 ∷ 7 ∷ [])
    ∷ []

abbrev pub tied : ℕ → ℕ → Example
tied t u =
    record {
      discipline = FirstInFirstOut;
      mask = 7;
      lines =
          two_posters t u
          ++ (plain end 0 5 0, 0 ∷ 1 ∷ 3 ∷ 4 ∷ 5 ∷ 7 ∷ 8 ∷ [])
          ∷ (plain begin 0 6 0, 0 ∷ 2 ∷ 3 ∷ 4 ∷ 6 ∷ [])
          ∷ (plain write 0 9 0, 0 ∷ 2 ∷ 3 ∷ 4 ∷ 6 ∷ 10 ∷ [])
          ∷ (plain end 0 6 0, 0 ∷ 2 ∷ 3 ∷ 4 ∷ 6 ∷ 10 ∷ 11 ∷ [])
          ∷ [];
      races = race 8 11 CrossPosted ∷ [];
      refused = [];
    }

-- ---- Plain transitivity hides a race

abbrev pub through_locks : Example
through_locks =
    record {
      discipline = FirstInFirstOut;
      mask = 7;
      lines =
          two_posters 1 2
          ++ (plain acquire 0 3 0, 0 ∷ 1 ∷ 3 ∷ 4 ∷ 5 ∷ 7 ∷ 8 ∷ [])
          ∷ (plain release 0 3 0, 0 ∷ 1 ∷ 3 ∷ 4 ∷ 5 ∷ 7 ∷ 8 ∷ 9 ∷ [])
          ∷ (plain end 0 5 0, 0 ∷ 1 ∷ 3 ∷ 4 ∷ 5 ∷ 7 ∷ 8 ∷ 9 ∷ 10 ∷ [])
          ∷ (plain acquire 1 3 0, 0 ∷ 1 ∷ 3 ∷ 4 ∷ 5 ∷ 7 ∷ 8 ∷ 9 ∷ 10 ∷ [])
          ∷ (plain release 1 3 0, 0 ∷ 1 ∷ 3 ∷ 4 ∷ 5 ∷ 7 ∷ 8 ∷ 9 ∷ 10 ∷ 12 ∷ [])
          ∷ (plain begin 0 6 0, 0 ∷ 2 ∷ 3 ∷ 4 ∷ 6 ∷ [])
          ∷ (plain acquire 0 3 0, 0 ∷ 1 ∷ 2 ∷ 3 ∷ 4 ∷ 5 ∷ 6 ∷ 12 ∷ 13 ∷ 14 ∷ [])
          ∷ (plain write 0 9 0, 0 ∷ 1 ∷ 2 ∷ 3 ∷ 4 ∷ 5 ∷ 6 ∷ 12 ∷ 13 ∷ 14 ∷ 15 ∷ [])
          ∷ [];
      races = race 8 16 CrossPosted ∷ [];
      refused = [];
    }

-- ---- Outside tasks, after the loop

abbrev pub outside_tasks : DisciplineKind → Example
outside_tasks d =
    record {
      discipline = d;
      mask = 1;
      lines =
          (plain threadinit 0 0 0, [])
          ∷ (plain attach_q 0 0 0, 0 ∷ [])
          ∷ (plain loop_on_q 0 0 0, 0 ∷ 1 ∷ [])
          ∷ (plain write 0 9 0, 0 ∷ 1 ∷ 2 ∷ [])
          ∷ (plain write 0 9 0, 0 ∷ 1 ∷ 2 ∷ [])
          ∷ [];
      races = race 3 4 Unknown ∷ [];
      refused = [];
    }

-- ---- Co-enabled looks one way

abbrev pub two_events : Example
two_events =
    record {
      discipline = Timed;
      mask = 3;
      lines =
          (plain threadinit 0 0 0, [])
          ∷ (plain threadinit 1 0 0, [])
          ∷ (plain attach_q 0 0 0, 0 ∷ [])
          ∷ (plain loop_on_q 0 0 0, 0 ∷ 2 ∷ [])
          ∷ (marked_post 1 1 0 environment, 0 ∷ 1 ∷ 2 ∷ [])
          ∷ (marked_post 1 2 0 environment, 0 ∷ 1 ∷ 2 ∷ 4 ∷ [])
          ∷ (plain begin 0 1 0, 0 ∷ 1 ∷ 2 ∷ 3 ∷ 4 ∷ [])
          ∷ (marked_post 0 3 0 (after 5), 0 ∷ 1 ∷ 2 ∷ 3 ∷ 4 ∷ 6 ∷ [])
          ∷ (plain end 0 1 0, 0 ∷ 1 ∷ 2 ∷ 3 ∷ 4 ∷ 6 ∷ 7 ∷ [])
          ∷ (plain begin 0 2 0, 0 ∷ 1 ∷ 2 ∷ 3 ∷ 4 ∷ 5 ∷ 6 ∷ 7 ∷ 8 ∷ [])
          ∷ (plain write 0 9 0, 0 ∷ 1 ∷ 2 ∷ 3 ∷ 4 ∷ 5 ∷ 6 ∷ 7 ∷ 8 ∷ 9 ∷ [])
          ∷ (plain end 0 2 0, 0 ∷ 1 ∷ 2 ∷ 3 ∷ 4 ∷ 5 ∷ 6 ∷ 7 ∷ 8 ∷ 9 ∷ 10 ∷ [])
          ∷ (plain begin 0 3 0, 0 ∷ 1 ∷ 2 ∷ 3 ∷ 4 ∷ 6 ∷ 7 ∷ 8 ∷ [])
          ∷ (plain write 0 9 0, 0 ∷ 1 ∷ 2 ∷ 3 ∷ 4 ∷ 6 ∷ 7 ∷ 8 ∷ 12 ∷ [])
          ∷ (plain end 0 3 0, 0 ∷ 1 ∷ 2 ∷ 3 ∷ 4 ∷ 6 ∷ 7 ∷ 8 ∷ 12 ∷ 13 ∷ [])
          ∷ [];
      races = race 10 13 CoEnabled ∷ [];
      refused = [];
    }

-- ---- A lock has no depth

abbrev pub acquired_twice : DisciplineKind → Example
acquired_twice d =
    record {
      discipline = d;
      mask = 2;
      lines =
          (plain threadinit 1 0 0, [])
          ∷ (plain acquire 1 3 0, 0 ∷ [])
          ∷ (plain acquire 1 3 0, 0 ∷ 1 ∷ [])
          ∷ (plain release 1 3 0, 0 ∷ 1 ∷ 2 ∷ [])
          ∷ [];
      races = [];
      refused = (plain release 1 3 0, 15) ∷ [];
    }

-- ---- All of them

abbrev pub disciplines : List DisciplineKind
disciplines = FirstInFirstOut ∷ AnyOrder ∷ Timed ∷ []

unfoldable pub table : List Example
table =
    two_panels
    ∷ posts_twice
    ∷ posts_twice_in_any_order
    ∷ overtaking
    ∷ overtaking_in_any_order
    ∷ task_posts
    ∷ tied 1 2
    ∷ tied 2 1
    ∷ through_locks
    ∷ two_events
    ∷ map outside_tasks disciplines
    ++ map acquired_twice disciplines

-- ---- Delays

pub record DelaysStand : Type 0 where
  pub equal : precedence_of Timed (after 100) (after 100) ≡ true
  pub longer : precedence_of Timed (after 101) (after 100) ≡ false
  pub delayed_first : precedence_of Timed (after 0) at_once ≡ false
  pub undelayed_first : (m : Marks) → precedence_of Timed at_once m ≡ true

pub record RecordingsStand : Type 0 where
  pub examples : AllByRecursion Stands table
  pub delays : DelaysStand
  pub text : Reported (file two_panels) (codes "ops 9 races 1\n5 7 multi-threaded\n") true
