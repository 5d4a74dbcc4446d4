-- What the sets hold.
use Rattle.std.specs.Prelude.{◌≡◌, ℕ, ◌<◌, Bool, not, ◌&&◌, ◌||◌, List, length, take, Option, ◌==◌, nat_lt}
use Rattle.recording.specs.Codes.{threadexit, attach_q, begin, end, release, enable}
use Rattle.recording.specs.declared.row.Row.{Row}
use Rattle.columns.specs.Positions.{has}
use Rattle.happens_before.specs.Trace.{row}
use Rattle.rules.specs.Acceptance.{does, does_on, is_on, forks, loops, current}
use Rattle.index.specs.declared.sets.Index.{Index}
use Rattle.rules.specs.Options.{is_of}
use Rattle.index.specs.Noted.{AddsIf, Columns, Notes, SameColumns, Unchanged}
use Rattle.index.specs.Sets.{
  own_of,
  unlooped_of,
  attaches_of,
  forks_of,
  exits_of,
  ends_of,
  releases_of,
  enables_of,
  members_of,
}

-- the column of each key has the held positions at which the operation fits
abbrev pub Keeps : ℕ → (ℕ → Row → Bool) → List Row → Columns → Type 0
Keeps size P held column =
    (k i : ℕ) → k < size → has (column k) i ≡ (nat_lt i (length held) && P k (row held i))

-- thread t does the operation, before which it does not loop
abbrev pub unlooped_at : List Row → ℕ → Row → Bool
unlooped_at earlier t o = o.thread == t && not (loops earlier t)

-- the operation belongs to task p
abbrev pub member_at : List Row → ℕ → Row → Bool
member_at earlier p o = current earlier o.thread p || does_on begin o.thread p o

-- the same where the operations before it matter
abbrev pub KeepsSince : ℕ → (List Row → ℕ → Row → Bool) → List Row → Columns → Type 0
KeepsSince size P held column =
    (k i : ℕ) → k < size → has (column k) i ≡ (nat_lt i (length held) && P (take i held) k (row held i))

abbrev pub by_thread : ℕ → Row → Bool
by_thread t o = o.thread == t

pub record Indexed (held : List Row) (index : Index) : Type 0 where
  pub own : Keeps 64 by_thread held (own_of index)
  pub unlooped : KeepsSince 64 unlooped_at held (unlooped_of index)
  pub attaches : Keeps 64 (does attach_q) held (attaches_of index)
  pub forked : Keeps 64 forks held (forks_of index)
  pub exits : Keeps 64 (does threadexit) held (exits_of index)
  pub ended : Keeps 64 (does end) held (ends_of index)
  pub releases : Keeps 64 (is_on release) held (releases_of index)
  pub enables : Keeps 512 (is_on enable) held (enables_of index)
  pub members : KeepsSince 512 member_at held (members_of index)

-- the tables that depend on the operation alone
pub record NotedKinds (o : Row) (position : ℕ) (before after : Index) : Type 0 where
  pub own : Notes 64 by_thread o position (own_of before) (own_of after)
  pub attaches : Notes 64 (does attach_q) o position (attaches_of before) (attaches_of after)
  pub forked : Notes 64 forks o position (forks_of before) (forks_of after)
  pub exits : Notes 64 (does threadexit) o position (exits_of before) (exits_of after)
  pub ended : Notes 64 (does end) o position (ends_of before) (ends_of after)
  pub releases : Notes 64 (is_on release) o position (releases_of before) (releases_of after)
  pub enables : Notes 512 (is_on enable) o position (enables_of before) (enables_of after)
  pub unlooped : Unchanged 64 (unlooped_of before) (unlooped_of after)
  pub members : Unchanged 512 (members_of before) (members_of after)

-- the tables that depend on what stood before it
pub record NotedRest (thread : ℕ) (looping : Bool) (task : Option ℕ) (position : ℕ) (before after : Index) : Type 0 where
  pub unlooped : AddsIf 64 (λ t. (thread == t) && not looping) position (unlooped_of before) (unlooped_of after)
  pub members : AddsIf 512 (is_of task) position (members_of before) (members_of after)
  pub own : Unchanged 64 (own_of before) (own_of after)
  pub attaches : Unchanged 64 (attaches_of before) (attaches_of after)
  pub forked : Unchanged 64 (forks_of before) (forks_of after)
  pub exits : Unchanged 64 (exits_of before) (exits_of after)
  pub ended : Unchanged 64 (ends_of before) (ends_of after)
  pub releases : Unchanged 64 (releases_of before) (releases_of after)
  pub enables : Unchanged 512 (enables_of before) (enables_of after)

-- no set has another position than before
pub record SameSets (before after : Index) : Type 0 where
  pub own : SameColumns 64 (own_of before) (own_of after)
  pub unlooped : SameColumns 64 (unlooped_of before) (unlooped_of after)
  pub attaches : SameColumns 64 (attaches_of before) (attaches_of after)
  pub forked : SameColumns 64 (forks_of before) (forks_of after)
  pub exits : SameColumns 64 (exits_of before) (exits_of after)
  pub ended : SameColumns 64 (ends_of before) (ends_of after)
  pub releases : SameColumns 64 (releases_of before) (releases_of after)
  pub enables : SameColumns 512 (enables_of before) (enables_of after)
  pub members : SameColumns 512 (members_of before) (members_of after)
