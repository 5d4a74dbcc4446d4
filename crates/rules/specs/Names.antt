-- The names of classes and orders.
use Rattle.std.specs.Prelude.{ℕ, List, [], ◌∷◌, codes, slice_index_or}
use Rattle.rules.specs.declared.order.Order.{Order}
use Rattle.rules.specs.declared.order.Order.TheVariants.{Same, Before, After, Unordered}

-- by the numbers of the classes, from 1
abbrev pub class_names : List (List ℕ)
class_names =
    []
    ∷ codes "multi-threaded"
    ∷ codes "co-enabled"
    ∷ codes "delayed"
    ∷ codes "cross-posted"
    ∷ codes "unknown"
    ∷ []

abbrev pub class_name : ℕ → List ℕ
class_name class = slice_index_or class_names class []

abbrev pub order_name : Order → List ℕ
order_name Same = codes "same"
order_name Before = codes "before"
order_name After = codes "after"
order_name Unordered = codes "unordered"
