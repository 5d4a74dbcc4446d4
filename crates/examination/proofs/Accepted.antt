-- What is known of an operation that nothing turns away.
use Rattle.std.proofs.Common.{◌≡◌, ◌<◌, Bool, true, false, List, [], ◌∷◌, ◌++◌, length, None, subst, sym}
use Rattle.recording.specs.Codes.{begin}
use Rattle.recording.specs.Lawful.{lawful}
use Rattle.recording.specs.declared.marks.Marks.{Marks}
use Rattle.recording.specs.declared.row.Row.{Row}
use Rattle.rules.specs.Acceptance.{Setting, busy, refusal}
use Rattle.rules.specs.Fair.{FairTables, refused_by_tables}
use Rattle.rules.proofs.Fair.{accepted, accepted_allowed, not_refused, tables_push, begin_turn}
use Rattle.examination.specs.Holding.{Holding, held, setting_of}

-- by the fields as by what a caller sees
pub seen_accepted :
    {D : Type 0} (admission : D → Marks → Bool) (precedence : D → Marks → Marks → Bool) (o : Row) {e v : Holding D}
    → e ≡ v → refusal (setting_of admission precedence v) (held v) o ≡ None → refusal (setting_of admission precedence e) (held e) o ≡ None
seen_accepted admission precedence o same =
    subst (λ x. refusal (setting_of admission precedence x) (held x) o ≡ None) (sym same)

module _ (s : Setting) (held : List Row) (o : Row) (none : refusal s held o ≡ None) where
  pub room : length held < 512
  room = (accepted s held o none).room

  pub fine : refused_by_tables s.initial held o ≡ false
  fine = not_refused s.initial held o (accepted_allowed s held o (accepted s held o none))

  pub fair_after : lawful o ≡ true → FairTables s.initial held → FairTables s.initial (held ++ o ∷ [])
  fair_after lawful-o fair = tables_push s.initial held o fair lawful-o fine

  pub idle : o.code ≡ begin → busy held o.thread ≡ false
  idle b = (begin_turn s.initial held o (accepted_allowed s held o (accepted s held o none)) b).0
