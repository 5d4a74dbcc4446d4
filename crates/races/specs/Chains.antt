-- The nearest posts that are stored for each held position.
use Rattle.std.specs.Prelude.{◌≡◌, ℕ, ◌<◌, true, cond, not, ◌↔◌, List, [], ◌∷◌, ◌++◌, length, is_some, Some, None, Option, ◌==◌, nat_lt, slice_index_or}
use Rattle.recording.specs.Posts.{marks_in}
use Rattle.recording.specs.declared.row.Row.{Row}
use Rattle.happens_before.specs.Trace.{row, thread}
use Rattle.happens_before.specs.Race.{TaskPost, Nearest, Environment, Delayed, Foreign}
use Rattle.happens_before.specs.Theorems.{PostedFirst}
use Rattle.rules.specs.Options.{is_of}
use Rattle.races.specs.declared.nearest.NearestPosts.{NearestPosts}

abbrev pub no_posts : NearestPosts
no_posts = record { environment = None; delayed = None; foreign = None }

abbrev pub nearest_at : List NearestPosts → ℕ → NearestPosts
nearest_at nearests i = slice_index_or nearests i no_posts

-- it is the number with the property, or there is none
abbrev pub Finds : Option ℕ → (ℕ → Type 0) → Type 0
Finds o P = (a : ℕ) → (is_of o a ≡ true) ↔ P a

-- the posts are the nearest of their kind to position i
pub record NearestTo (held : List Row) (i : ℕ) (posts : NearestPosts) : Type 0 where
  pub environment : Finds posts.environment (Nearest held (Environment held) i)
  pub delayed : Finds posts.delayed (Nearest held (Delayed held) i)
  pub foreign : Finds posts.foreign (Nearest held (Foreign held (thread held i)) i)

-- each held position has its nearest posts
abbrev pub NearestRight : List Row → List NearestPosts → Type 0
NearestRight held nearests = (i : ℕ) → i < length held → NearestTo held i (nearest_at nearests i)

-- what the nearest posts are of an operation that thread t adds, whose task, if it has one, was posted at post
abbrev pub NearestOfAdded : List Row → List NearestPosts → ℕ → Option ℕ → NearestPosts → Type 0
NearestOfAdded held nearests t post posts =
    (o : Row)
    → o.thread ≡ t
    → PostedFirst (held ++ o ∷ [])
    → Finds post (TaskPost (held ++ o ∷ []) (length held))
    → length nearests ≡ length held
    → NearestRight held nearests
    → NearestRight (held ++ o ∷ []) (nearests ++ posts ∷ [])

-- of an operation of thread t in a task that was posted at b: the post where it fits, else what is nearest to it
abbrev pub nearest_past : ℕ → ℕ → Row → NearestPosts → NearestPosts
nearest_past t b post beyond =
    record {
      environment = cond (marks_in post).environment (Some b) beyond.environment;
      delayed = cond (is_some (marks_in post).delay) (Some b) beyond.delayed;
      foreign = cond (not (post.thread == t)) (Some b) beyond.foreign;
    }

-- of an operation that thread t adds, whose task, if it has one, was posted at post: none where nothing is held there
abbrev pub nearest_added : List Row → List NearestPosts → ℕ → Option ℕ → NearestPosts
nearest_added held nearests t None = no_posts
nearest_added held nearests t (Some b) =
    cond (nat_lt b (length held)) (nearest_past t b (row held b) (nearest_at nearests b)) no_posts
