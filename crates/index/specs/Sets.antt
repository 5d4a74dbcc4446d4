-- The columns of an index, by thread, lock and task.
use Rattle.std.specs.Prelude.{ℕ, [], slice_index_or}
use Rattle.columns.specs.declared.column.Column.{Column}
use Rattle.columns.specs.Sweep.{column_at}
use Rattle.index.specs.declared.sets.Index.{Index}
use Rattle.index.specs.declared.sets.TaskSets.{TaskSets}
use Rattle.index.specs.declared.sets.ThreadSets.{ThreadSets}
use Rattle.index.specs.Noted.{Columns}

-- past the last thread or task
abbrev pub nothing : Column
nothing = record { words = [] }

abbrev pub of_thread : Index → ℕ → ThreadSets
of_thread index t =
    slice_index_or index.threads t
    (record {
      own = nothing;
      unlooped = nothing;
      attaches = nothing;
      forks = nothing;
      exits = nothing;
      ends = nothing;
    })

abbrev pub of_task : Index → ℕ → TaskSets
of_task index p = slice_index_or index.tasks p (record { enables = nothing; members = nothing })

-- ---- The column of each thread, lock or task

abbrev pub own_of : Index → Columns
own_of index t = (of_thread index t).own

abbrev pub unlooped_of : Index → Columns
unlooped_of index t = (of_thread index t).unlooped

abbrev pub attaches_of : Index → Columns
attaches_of index t = (of_thread index t).attaches

abbrev pub forks_of : Index → Columns
forks_of index t = (of_thread index t).forks

abbrev pub exits_of : Index → Columns
exits_of index t = (of_thread index t).exits

abbrev pub ends_of : Index → Columns
ends_of index t = (of_thread index t).ends

abbrev pub releases_of : Index → Columns
releases_of index k = column_at index.releases k

abbrev pub enables_of : Index → Columns
enables_of index p = (of_task index p).enables

abbrev pub members_of : Index → Columns
members_of index p = (of_task index p).members
