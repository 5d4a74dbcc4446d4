-- The fourteen operations by their codes, and which fields each has.
use Rattle.std.specs.Prelude.{ℕ, Bool, ◌&&◌, ◌||◌, ◌==◌, nat_le}
use Rattle.recording.specs.declared.code.Code.{Code}
use Rattle.recording.specs.declared.code.Code.TheVariants.{
  ThreadInit,
  ThreadExit,
  Fork,
  Join,
  AttachQ,
  LoopOnQ,
  Post,
  Begin,
  End,
  Acquire,
  Release,
  Enable,
  Read,
  Write,
}

abbrev pub threadinit : ℕ
threadinit = 1

abbrev pub threadexit : ℕ
threadexit = 2

abbrev pub fork : ℕ
fork = 3

abbrev pub join : ℕ
join = 4

abbrev pub attach_q : ℕ
attach_q = 5

abbrev pub loop_on_q : ℕ
loop_on_q = 6

abbrev pub post : ℕ
post = 7

abbrev pub begin : ℕ
begin = 8

abbrev pub end : ℕ
end = 9

abbrev pub acquire : ℕ
acquire = 10

abbrev pub release : ℕ
release = 11

abbrev pub enable : ℕ
enable = 12

abbrev pub read : ℕ
read = 13

abbrev pub write : ℕ
write = 14

abbrev pub code_number : Code → ℕ
code_number ThreadInit = threadinit
code_number ThreadExit = threadexit
code_number Fork = fork
code_number Join = join
code_number AttachQ = attach_q
code_number LoopOnQ = loop_on_q
code_number Post = post
code_number Begin = begin
code_number End = end
code_number Acquire = acquire
code_number Release = release
code_number Enable = enable
code_number Read = read
code_number Write = write

abbrev pub known : ℕ → Bool
known c = nat_le threadinit c && nat_le c write

abbrev pub has_target : ℕ → Bool
has_target c = c == fork || (c == join || c == post)

abbrev pub has_task : ℕ → Bool
has_task c = c == post || (c == begin || (c == end || c == enable))

abbrev pub has_lock : ℕ → Bool
has_lock c = c == acquire || c == release

abbrev pub has_location : ℕ → Bool
has_location c = c == read || c == write

abbrev pub has_item : ℕ → Bool
has_item c = has_task c || (has_lock c || has_location c)
