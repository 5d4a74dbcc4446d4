-- Why a held position stands before a new operation without transitivity, said of the operations held.
use Rattle.std.specs.Prelude.{◌≡◌, ℕ, ◌<◌, Bool, true, ◌⊎◌, List, length, take}
use Rattle.recording.specs.Codes.{begin, end}
use Rattle.recording.specs.declared.row.Row.{Row}
use Rattle.happens_before.specs.Trace.{row, code, thread, item, marks, Posts}
use Rattle.happens_before.specs.Order.{Precedence, Pairs}
use Rattle.index.specs.Given.{kindly}
use Rattle.index.specs.Indexed.{member_at, unlooped_at}

-- task p hands over to the task whose post stands at b: by queue order, or by run to completion
abbrev pub Hands : Precedence → Pairs → List Row → ℕ → ℕ → Type 0
Hands D R held p b =
    ((a : ℕ) × (a < length held) × Posts held a p × (R a b ≡ true) × (D (marks held a) (marks held b) ≡ true))
    ⊎ ((k : ℕ) × (k < length held) × (member_at (take k held) p (row held k) ≡ true) × ((k ≡ b) ⊎ (R k b ≡ true)))

-- thread t ends a task at i that hands over to the task posted at b
abbrev pub Ended : Precedence → Pairs → List Row → ℕ → ℕ → ℕ → Type 0
Ended D R held t b i = (code held i ≡ end) × (thread held i ≡ t) × Hands D R held (item held i) b

-- i is the post at b, or such an end
abbrev pub Handed : Precedence → Pairs → List Row → ℕ → ℕ → ℕ → Type 0
Handed D R held t b i = (i ≡ b) ⊎ ((i < length held) × Ended D R held t b i)

-- i is the post of task p, or an end by thread t of a task that hands over to p
abbrev pub BegunAfter : Precedence → Pairs → List Row → ℕ → ℕ → ℕ → Type 0
BegunAfter D R held t p i = (b : ℕ) × Posts held b p × Handed D R held t b i

-- i belongs to a task that passes
abbrev pub TaskBefore : List Row → (ℕ → Bool) → ℕ → Type 0
TaskBefore held test i =
    (i < length held) × ((p : ℕ) × (test p ≡ true) × (member_at (take i held) p (row held i) ≡ true))

pub data Directly (D : Precedence) (R : Pairs) (held : List Row) (o : Row) (i : ℕ) : Type 0 where
  by_program : unlooped_at (take i held) o.thread (row held i) ≡ true → Directly D R held o i
  by_task : (p : ℕ) → member_at held p o ≡ true → member_at (take i held) p (row held i) ≡ true → Directly D R held o i
  by_kind : kindly (row held i) o ≡ true → Directly D R held o i
  by_post : o.code ≡ begin → Posts held i o.item → Directly D R held o i
  by_handover :
      (b : ℕ)
      → o.code ≡ begin
      → Posts held b o.item
      → code held i ≡ end
      → thread held i ≡ o.thread
      → Hands D R held (item held i) b
      → Directly D R held o i
