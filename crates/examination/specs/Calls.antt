-- What a call answers or refuses, and what is held then.
use Rattle.std.specs.Prelude.{◌≡◌, ℕ, ◌<◌, ◌≤◌, ◌⊎◌, List, [], ◌∷◌, ◌++◌, length, take, Some, None, Ok, Err, Result}
use Rattle.recording.specs.declared.row.Row.{Row}
use Rattle.rules.specs.Acceptance.{Setting, refusal}
use Rattle.rules.specs.declared.faults.NotHeld.{NotHeld}
use Rattle.rules.specs.declared.faults.StateFault.{StateFault}
use Rattle.examination.specs.declared.examination.added.Added.{Added}

abbrev pub Adds : Setting → List Row → Row → Result Added StateFault → List Row → Type 0
Adds s before o (Ok a) after = (refusal s before o ≡ None) × (a.position ≡ length before) × (after ≡ before ++ o ∷ [])
Adds s before o (Err f) after = (refusal s before o ≡ Some f) × (after ≡ before)

abbrev pub Cuts : List Row → ℕ → Result Unit NotHeld → List Row → Type 0
Cuts before n (Ok _) after = (n ≤ length before) × (after ≡ take n before)
Cuts before n (Err _) after = (length before < n) × (after ≡ before)

-- two positions have an answer where both are held, and only there
abbrev pub Told : {A : Type 0} → List Row → ℕ → ℕ → Result A NotHeld → Type 0
Told held i j (Ok _) = (i < length held) × (j < length held)
Told held i j (Err _) = (length held ≤ i) ⊎ (length held ≤ j)
