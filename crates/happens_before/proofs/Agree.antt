-- Traces that agree up to n: they hold n rows, these are alike, and tasks are posted before they begin. Their order is one.
use Rattle.std.proofs.Common.{◌≡◌, ℕ, ◌<◌, ◌≤◌, ◌↔◌, List, length, arith}
use Rattle.std.proofs.lemmas.Grind.{common_steps}
use Rattle.recording.specs.declared.row.Row.{Row}
use Rattle.happens_before.specs.Order.{Precedence, Before, Lacked}
use Rattle.happens_before.specs.Theorems.{PostedFirst}
use Rattle.happens_before.proofs.Alike.{Alike}
use Rattle.happens_before.proofs.Columns.{hb_alike}
use Rattle.happens_before.proofs.Least.{before_same, lacked_same}

pub record Agree (n : ℕ) (xs ys : List Row) : Type 0 where
  pub alike : Alike n xs ys
  pub held : n ≤ length xs
  pub held' : n ≤ length ys
  pub posted : PostedFirst xs
  pub posted' : PostedFirst ys

pub agree_sym : {n : ℕ} {xs ys : List Row} → Agree n xs ys → Agree n ys xs
agree_sym g = grind (arith, common_steps)

-- where ys holds no more than is alike, it posts first as xs does
pub agree_from :
    (n : ℕ) (xs ys : List Row)
    → Alike n xs ys
    → n ≤ length xs
    → length ys ≡ n
    → PostedFirst xs
    → Agree n xs ys
agree_from n xs ys a lx ly first = grind (arith, common_steps)

module _ {n : ℕ} {xs ys : List Row} (g : Agree n xs ys) (D : Precedence) (i j : ℕ) (l : j < n) where
  pub before_agree : Before D xs i j ↔ Before D ys i j
  before_agree =
      before_same D xs ys g.posted g.posted' i j (hb_alike D n xs ys g.alike g.held g.held' i j l)

  pub lacked_agree : Lacked D xs i j ↔ Lacked D ys i j
  lacked_agree =
      lacked_same D xs ys g.posted g.posted' i j (hb_alike D n xs ys g.alike g.held g.held' i j l)
