-- The setting that a header names.
use Rattle.std.proofs.Common.{◌≡◌, ℕ, List, get_or, sym, refl, ap, ◌∙◌}
use Rattle.recording.specs.Disciplines.{discipline_number, discipline_at}
use Rattle.recording.specs.declared.discipline.DisciplineKind.{DisciplineKind}
use Rattle.recording.specs.declared.discipline.DisciplineKind.TheVariants.{FirstInFirstOut, AnyOrder, Timed}
use Rattle.files.specs.Headers.{Heads}
use Rattle.files.specs.declared.header.Header.{Header}
use Rattle.dispatch.specs.Recorded.{admission_of, precedence_of}
use Rattle.rules.specs.Acceptance.{opened}
use Rattle.reporting.specs.Reports.{setting_in}

at_number : (d : DisciplineKind) → discipline_at (discipline_number d) ≡ d
at_number FirstInFirstOut = refl
at_number AnyOrder = refl
at_number Timed = refl

pub setting_read :
    (file : List ℕ) (h : Header) (d : DisciplineKind) (mask : ℕ) → Heads file h → d ≡ h.discipline → mask ≡ h.mask
    → opened (admission_of d) (precedence_of d) mask ≡ setting_in file
setting_read file h d mask w p q =
    let kind : d ≡ discipline_at (get_or file 3 0) = p ∙ (sym (at_number h.discipline) ∙ ap discipline_at w.discipline) in
    let same = q ∙ w.mask in
    λ k. opened (admission_of (kind k)) (precedence_of (kind k)) (same k)
