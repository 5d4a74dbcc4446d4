-- Renamings: four one-to-one maps of the thread, task, lock and location ranges onto themselves.
use Rattle.std.specs.Prelude.{◌≡◌, ℕ, ◌<◌, cond}
use Rattle.recording.specs.Codes.{has_target, has_task, has_lock, has_location}
use Rattle.recording.specs.declared.row.Row.{Row}

-- a one-to-one map of the numbers below n onto themselves, with its inverse
pub record Permutation (n : ℕ) : Type 0 where
  pub to : ℕ → ℕ
  pub back : ℕ → ℕ
  pub to_below : (k : ℕ) → k < n → to k < n
  pub back_below : (k : ℕ) → k < n → back k < n
  pub back_to : (k : ℕ) → k < n → back (to k) ≡ k
  pub to_back : (k : ℕ) → k < n → to (back k) ≡ k

pub record Renaming : Type 0 where
  pub threads : Permutation 64
  pub tasks : Permutation 512
  pub locks : Permutation 64
  pub locations : Permutation 65536

-- each number that the operation has goes by the map of its kind
abbrev pub renamed : Renaming → Row → Row
renamed m r =
    record {
      code = r.code;
      thread = m.threads.to r.thread;
      item =
          cond (has_task r.code) (m.tasks.to r.item)
          (cond (has_lock r.code) (m.locks.to r.item)
          (cond (has_location r.code) (m.locations.to r.item) r.item));
      target = cond (has_target r.code) (m.threads.to r.target) r.target;
      marks = r.marks;
      reserved = r.reserved;
      delay = r.delay;
    }
