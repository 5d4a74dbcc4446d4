-- What the tables answer of the post of a task.
use Rattle.std.proofs.Common.{◌≡◌, ℕ, ◌<◌, Bool, cond, ltb, List, length, Some, None, Option, sym, ◌∙◌, lt-ltb}
use Rattle.std.proofs.lemmas.Bool.{cond-true}
use Rattle.recording.specs.declared.row.Row.{Row}
use Rattle.happens_before.specs.Trace.{Posts}
use Rattle.tables.specs.Matches.{Matches}
use Rattle.tables.specs.Records.{task_at}
use Rattle.tables.specs.declared.tables.Tables.{Tables}
use Rattle.tables.specs.declared.tasks.Posting.{Posting}
use Rattle.ordering.proofs.Postings.{posted_at_lem, posted_there, posted_never}

module _ (initial : ℕ → Bool) (held : List Row) (tables : Tables) (matches : Matches initial held tables) (p : ℕ) (small : p < 512) where
  abbrev answer : Option Posting
  answer = cond (ltb p 512) (task_at tables.tasks p).posting None

  recorded : {x : Option Posting} → answer ≡ x → (task_at tables.tasks p).posting ≡ x
  recorded e = sym (cond-true (ltb p 512) (task_at tables.tasks p).posting None (lt-ltb p 512 small)) ∙ e

  pub posted_here : (x : Posting) → answer ≡ Some x → (x.position < length held) × Posts held x.position p
  posted_here x e = posted_at_lem held p _ (matches.tasks_match p small).position_is x (recorded e)

  pub posted_nowhere_else : (x : Posting) → answer ≡ Some x → (b : ℕ) → Posts held b p → x.position ≡ b
  posted_nowhere_else x e = posted_there held p _ (matches.tasks_match p small).position_is x (recorded e)

  pub unposted : answer ≡ None → (b : ℕ) → Posts held b p → ⊥
  unposted e = posted_never held p _ (matches.tasks_match p small).position_is (recorded e)
