-- The two relations of each discipline that a recording can name.
use Rattle.happens_before.specs.Order.{Precedence}
use Rattle.dispatch.specs.Disciplines.{Admission, every, undelayed, always, never, in_time}
use Rattle.recording.specs.declared.discipline.DisciplineKind.{DisciplineKind}
use Rattle.recording.specs.declared.discipline.DisciplineKind.TheVariants.{FirstInFirstOut, AnyOrder, Timed}

abbrev pub admission_of : DisciplineKind → Admission
admission_of FirstInFirstOut = undelayed
admission_of AnyOrder = every
admission_of Timed = every

abbrev pub precedence_of : DisciplineKind → Precedence
precedence_of FirstInFirstOut = always
precedence_of AnyOrder = never
precedence_of Timed = in_time
