-- The sets after one more operation.
use Rattle.std.proofs.Common.{◌≡◌, ℕ, ◌<◌, ◌≤◌, Bool, not, ◌&&◌, eqb, List, [], ◌∷◌, ◌++◌, length, take, Option, sym, refl, arith}
use Rattle.std.proofs.lemmas.Grind.{common_steps}
use Rattle.std.proofs.lemmas.List.{get_or_append_left, get_or_push, take-append-le}
use Rattle.recording.specs.declared.row.Row.{Row}
use Rattle.happens_before.specs.Trace.{row}
use Rattle.recording.specs.Codes.{threadexit, attach_q, end, release, enable}
use Rattle.rules.specs.Acceptance.{does, is_on, forks, loops}
use Rattle.rules.specs.Options.{is_of}
use Rattle.index.specs.declared.sets.Index.{Index}
use Rattle.index.specs.Indexed.{KeepsSince, by_thread, unlooped_at, member_at, Indexed, NotedKinds, NotedRest}
use Rattle.index.specs.Noted.{AddsIf, Columns, Unchanged}

pub row_earlier : (held : List Row) (o : Row) (i : ℕ) → i < length held → row (held ++ o ∷ []) i ≡ row held i
row_earlier held o i l = rw get_or_append_left refl

pub row_newest : (held : List Row) (o : Row) (i : ℕ) → i ≡ length held → row (held ++ o ∷ []) i ≡ o
row_newest held o i e = let q : length held ≡ i = sym e in rw get_or_push refl

pub take_earlier : (held : List Row) (o : Row) (i : ℕ) → i ≤ length held → take i (held ++ o ∷ []) ≡ take i held
take_earlier held o i l = rw take-append-le refl

looping_alike :
    (t : ℕ) (f : ℕ → Bool) (looping : Bool)
    → looping ≡ f t
    → (k : ℕ)
    → (eqb t k && not looping) ≡ (eqb t k && not (f k))
looping_alike t f looping e k = grind (arith, common_steps)

module _
    (held : List Row) (o : Row) (before middle after : Index) (looping : Bool) (task : Option ℕ)
    (indexed : Indexed held before)
    (room : length held < 512)
    (kinds : NotedKinds o (length held) before middle)
    (rest : NotedRest o.thread looping task (length held) middle after)
    (loops-so : looping ≡ loops held o.thread)
    (tasks-so : (p : ℕ) → is_of task p ≡ member_at held p o)
  where
    -- the position is added, and then the columns stay
    pushed :
        (size : ℕ) (P : ℕ → Row → Bool) (old new late : Columns)
        → KeepsSince size (λ _. P) held old
        → AddsIf size (λ k. P k o) (length held) old new
        → Unchanged size new late
        → KeepsSince size (λ _. P) (held ++ o ∷ []) late
    pushed size P old new late kept adds same k i l = grind (arith, common_steps)

    -- the columns stay, and then the position is added, by an equal test
    pushed_late :
        (size : ℕ) (P : List Row → ℕ → Row → Bool) (Q : ℕ → Bool) (old new late : Columns)
        → KeepsSince size P held old
        → Unchanged size old new
        → ((k : ℕ) → Q k ≡ P held k o)
        → AddsIf size Q (length held) new late
        → KeepsSince size P (held ++ o ∷ []) late
    pushed_late size P Q old new late kept same test adds = grind (arith, common_steps)

    pub indexed_push : Indexed (held ++ o ∷ []) after
    indexed_push =
        record {
          own = pushed 64 by_thread _ _ _ indexed.own kinds.own rest.own;
          unlooped =
              pushed_late 64 unlooped_at _ _ _ _ indexed.unlooped kinds.unlooped
              (looping_alike o.thread (loops held) looping loops-so)
              rest.unlooped;
          attaches = pushed 64 (does attach_q) _ _ _ indexed.attaches kinds.attaches rest.attaches;
          forked = pushed 64 forks _ _ _ indexed.forked kinds.forked rest.forked;
          exits = pushed 64 (does threadexit) _ _ _ indexed.exits kinds.exits rest.exits;
          ended = pushed 64 (does end) _ _ _ indexed.ended kinds.ended rest.ended;
          releases = pushed 64 (is_on release) _ _ _ indexed.releases kinds.releases rest.releases;
          enables = pushed 512 (is_on enable) _ _ _ indexed.enables kinds.enables rest.enables;
          members = pushed_late 512 member_at _ _ _ _ indexed.members kinds.members tasks-so rest.members;
        }
