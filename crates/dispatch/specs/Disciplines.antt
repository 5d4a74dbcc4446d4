-- Dispatch disciplines: which posts a queue takes, and which of two posts to it runs first.
use Rattle.std.specs.Prelude.{Bool, true, false, not, ◌&&◌, ◌||◌, is_some, nat_le}
use Rattle.happens_before.specs.Order.{Precedence}
use Rattle.recording.specs.Posts.{delay_number}
use Rattle.recording.specs.declared.marks.Marks.{Marks}

-- whether a post may be made
abbrev pub Admission : Type 0
Admission = Marks → Bool

abbrev pub delayed : Marks → Bool
delayed post = is_some post.delay

abbrev pub every : Admission
every post = true

abbrev pub undelayed : Admission
undelayed post = not (delayed post)

abbrev pub always : Precedence
always earlier later = true

abbrev pub never : Precedence
never earlier later = false

-- the earlier is undelayed, or both are delayed and it is delayed no longer than the later
abbrev pub in_time : Precedence
in_time earlier later =
    not (delayed earlier) || (delayed later && nat_le (delay_number earlier) (delay_number later))
