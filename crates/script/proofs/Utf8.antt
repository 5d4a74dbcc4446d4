-- Every line of a script is text.
use Rattle.std.proofs.Common.{ℕ, ◌^◌, ◌<◌, List, [], ◌∷◌, codes, IsUtf8, decimal, refl, arith}
use lib.Utf8.{encode}
use Rattle.std.proofs.lemmas.Fmt.{IsAscii-decimal}
use Rattle.std.proofs.lemmas.Str.{IsUtf8-append, IsUtf8-from_ascii}
use Rattle.script.specs.Texts.{before}
use Rattle.script.specs.Lines.{line_text, LineFits}
use Rattle.script.specs.declared.line.Line.{Line}
use Rattle.script.specs.declared.line.Line.TheVariants.{Open, Add, Cut, Order, Class, List as Races}

number : (n : ℕ) → n < 2 ^ 64 → IsUtf8 (decimal n)
number n h = IsUtf8-from_ascii (decimal n) (IsAscii-decimal n h)

first : {w ws : List ℕ} → IsUtf8 w → IsUtf8 ws → IsUtf8 (before w ws)
unfolding encode
first {w} {ws} h k = IsUtf8-append w (32 ∷ ws) h (IsUtf8-append (32 ∷ []) ws (32 ∷ [], (refl, refl)) k)

pub line_utf8 : (l : Line) → LineFits l → IsUtf8 (line_text l)
unfolding encode
line_utf8 (Open d m) fits = first {w = codes "open"} (codes "open", (refl, refl)) (first (number d (omega arith)) (number m (omega arith)))
line_utf8 (Add r) fits =
    first {w = codes "add"} (codes "add", (refl, refl))
    (first (number r.code (omega arith))
    (first (number r.thread (omega arith))
    (first (number r.item (omega arith))
    (first (number r.target (omega arith))
    (first (number r.marks (omega arith))
    (first (number r.reserved (omega arith)) (number r.delay (omega arith))))))))
line_utf8 (Cut n) fits = first {w = codes "cut"} (codes "cut", (refl, refl)) (number n (omega arith))
line_utf8 (Order i j) fits = first {w = codes "order"} (codes "order", (refl, refl)) (first (number i (omega arith)) (number j (omega arith)))
line_utf8 (Class i j) fits = first {w = codes "class"} (codes "class", (refl, refl)) (first (number i (omega arith)) (number j (omega arith)))
line_utf8 (Races n) fits = first {w = codes "list"} (codes "list", (refl, refl)) (number n (omega arith))
