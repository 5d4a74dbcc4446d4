-- The post of a task, by its record.
use Rattle.std.proofs.Common.{◌≡◌, ℕ, ◌<◌, true, false, ◌&&◌, ◌||◌, eqb, ltb, List, length, Some, None, Option, sym, refl, ap, ◌∙◌, ⊎_elim, ltb-true, lt-ltb, eq-eqb, eqb-true}
use borrow.Author.Tests.{both_ways, clash}
use Rattle.std.proofs.lemmas.Bool.Decides.{same_from_decides, Decides-eqb}
use Rattle.std.proofs.lemmas.Bool.{and_parts, and_from, cases_Bool}
use Rattle.recording.specs.Codes.{post, begin}
use Rattle.recording.specs.declared.row.Row.{Row}
use Rattle.happens_before.specs.Trace.{row, code, Posts}
use Rattle.happens_before.proofs.Posted.{post_held}
use Rattle.rules.specs.Acceptance.{is_on, does_on, current, busy}
use Rattle.rules.specs.Options.{is_of}
use Rattle.rules.proofs.Pushes.{some_below_true}
use Rattle.tables.specs.declared.tasks.Posting.{Posting}
use Rattle.tables.specs.Records.{stands_at}
use Rattle.index.specs.Indexed.{member_at}
use Rattle.ordering.proofs.Members.{does_on_is}

module _
    (held : List Row) (p : ℕ) (posting : Option Posting)
    (is : (b : ℕ) → stands_at posting b ≡ (ltb b (length held) && is_on post p (row held b)))
  where
    stands : (b : ℕ) → stands_at posting b ≡ true → (b < length held) × Posts held b p
    stands b e =
        let (l, h) = and_parts (ltb b (length held)) _ (sym (is b) ∙ e) in
        let (c, i) = and_parts (eqb (code held b) post) _ h in
        (ltb-true _ _ l, (eqb-true _ _ c, eqb-true _ _ i))

    there : (b : ℕ) → Posts held b p → stands_at posting b ≡ true
    there b (c, i) =
        is b ∙ and_from _ _ (lt-ltb _ _ (post_held held b p (c, i))) (and_from _ _ (eq-eqb _ _ c) (eq-eqb _ _ i))

    pub posted_at_lem : (x : Posting) → posting ≡ Some x → (x.position < length held) × Posts held x.position p
    posted_at_lem x e = stands x.position (ap (λ q. stands_at q x.position) e ∙ eq-eqb x.position x.position refl)

    pub posted_there : (x : Posting) → posting ≡ Some x → (b : ℕ) → Posts held b p → x.position ≡ b
    posted_there x e b h = eqb-true _ _ (sym (ap (λ q. stands_at q b) e) ∙ there b h)

    pub posted_never : posting ≡ None → (b : ℕ) → Posts held b p → ⊥
    posted_never e b h = clash (sym (ap (λ q. stands_at q b) e) ∙ there b h)

-- the task of an operation that begins it
pub begin_member :
    (held : List Row) (o : Row) (now-current : Option ℕ) (n p : ℕ) → o.code ≡ begin → o.item ≡ n → busy held o.thread ≡ false
    → ((q : ℕ) → is_of now-current q ≡ current held o.thread q) → ((q : ℕ) → is_of now-current q ≡ true → q < 512)
    → eqb n p ≡ member_at held p o
begin_member held o now-current n p c i idle is small =
    same_from_decides (eqb n p) (member_at held p o) (Decides-eqb n p) (
      λ e.
          let d : does_on begin o.thread p o ≡ true = sym (ap (λ b. b || does_on begin o.thread p o) none) ∙ e in
          sym i ∙ ((does_on_is begin o.thread p o).0 d).2,
      λ e. ap (λ b. b || does_on begin o.thread p o) none ∙ (does_on_is begin o.thread p o).1 (c, refl, i ∙ e),
    )
  where
    none : current held o.thread p ≡ false
    none =
        ⊎_elim
        (λ (e : current held o.thread p ≡ true).
        absurd (both_ways _ idle (some_below_true 512 (current held o.thread) p (small p (is p ∙ e)) e)))
        (λ e. e)
        (cases_Bool (current held o.thread p))
