-- The tests on rows, columns and nearest posts tell which operations race, and of which class.
use Rattle.std.proofs.Common.{◌≡◌, ℕ, ◌<◌, ◌≤◌, min, max, Bool, true, false, cond, not, ◌&&◌, ltb, ◌⊎◌, ◌↔◌, List, [], length, get_or, Some, None, Option, sym, refl, ap, ◌∙◌, subst, inl, inr, ⊎_elim, arith, ltb-true, lt-ltb, eq-eqb, eqb-true}
use native.Mathlib.Nat.{zero-div}
use borrow.Author.Tests.{not-false, both_ways, clash}
use Rattle.std.proofs.lemmas.List.{get_or_past, get_or_default}
use Rattle.std.proofs.lemmas.Bool.{and_parts, and_from, and_right, cases_lt}
use Rattle.std.proofs.lemmas.Bool.Decides.{Decides-eqb, Decides-and, Decides-or, Decides-not, Decides-like}
use Rattle.recording.specs.Codes.{read, write}
use Rattle.recording.specs.declared.row.Row.{Row}
use Rattle.columns.specs.declared.column.Column.{Column}
use Rattle.columns.specs.Positions.{has}
use Rattle.happens_before.specs.Trace.{row, code, thread}
use Rattle.happens_before.specs.Order.{Precedence, Before, Lacked}
use Rattle.happens_before.specs.Race.{Conflict, Race, Nearest, Environment, Delayed, Foreign, Apart}
use Rattle.happens_before.specs.Race.{MultiThreaded, CoEnabled, DelayApart, CrossPosted, Class, multi_threaded, co_enabled, delayed, cross_posted, unknown}
use Rattle.happens_before.specs.Theorems.{PostedFirst}
use Rattle.happens_before.proofs.Least.{before_hb, lacked_hb}
use Rattle.happens_before.proofs.Races.{nearest_earlier}
use Rattle.rules.specs.Answers.{Classed, no_race, race}
use Rattle.rules.specs.Columns.{pairs_in, Right}
use Rattle.rules.specs.Numbers.{race_number, class_number}
use Rattle.rules.specs.declared.race.RaceClass.{RaceClass}
use Rattle.rules.specs.declared.race.RaceClass.TheVariants.{MultiThreaded as IsMultiThreaded, CoEnabled as IsCoEnabled, Delayed as IsDelayed, CrossPosted as IsCrossPosted, Unknown}
use Rattle.races.specs.declared.nearest.NearestPosts.{NearestPosts}
use Rattle.races.specs.Chains.{nearest_at, Finds, NearestRight}
use Rattle.races.specs.Classes.{conflicting, racing, differs, unordered, class_at}
use Rattle.races.proofs.Nearests.{ne_true}

-- ---- Columns

-- past the end of the columns nothing is before
pub has_nothing : (columns : List Column) (i k : ℕ) → length columns ≤ k → pairs_in columns i k ≡ false
unfolding has
has_nothing columns i k l =
    ap (λ (c : Column). has c i) (get_or_past columns k (record { words = [] }) l)
    ∙ and_right (ltb i 512) _ (rw zero-div refl)

-- a column that has nothing may stand for one past the end
pub column_or :
    (columns : List Column) (empty : Column) (k i : ℕ) → has empty i ≡ false
    → has (get_or columns k empty) i ≡ pairs_in columns i k
column_or columns empty k i none =
    ⊎_elim
    (λ (l : k < length columns). ap (λ (c : Column). has c i) (get_or_default columns k empty (record { words = [] }) l))
    (λ (l : length columns ≤ k).
    ap (λ (c : Column). has c i) (get_or_past columns k empty l) ∙ (none ∙ sym (has_nothing columns i k l)))
    (cases_lt k (length columns))

-- ---- Conflicts and races

pub conflicting_is : (held : List Row) (i j : ℕ) → (conflicting (row held i) (row held j) ≡ true) ↔ Conflict held i j
conflicting_is held i j =
    Decides-and _ _ (Decides-eqb _ _)
    (Decides-like _ to from
    (Decides-or _ _
    (Decides-and _ _ (Decides-eqb _ _) (Decides-or _ _ (Decides-eqb _ _) (Decides-eqb _ _)))
    (Decides-and _ _ (Decides-eqb _ _) (Decides-eqb _ _))))
  where
    Mine : Type 0
    Mine =
        ((code held i ≡ write) × ((code held j ≡ write) ⊎ (code held j ≡ read)))
        ⊎ ((code held i ≡ read) × (code held j ≡ write))

    Theirs : Type 0
    Theirs =
        ((code held i ≡ write) × (code held j ≡ write))
        ⊎ (((code held i ≡ write) × (code held j ≡ read)) ⊎ ((code held i ≡ read) × (code held j ≡ write)))

    to : Mine → Theirs
    to (inl (a, inl b)) = inl (a, b)
    to (inl (a, inr b)) = inr (inl (a, b))
    to (inr h) = inr (inr h)

    from : Theirs → Mine
    from (inl (a, b)) = inl (a, inl b)
    from (inr (inl (a, b))) = inl (a, inr b)
    from (inr (inr h)) = inr h

module _ (D : Precedence) (held : List Row) (posted : PostedFirst held) where
  lacked_is : (i j : ℕ) → Lacked D held i j ↔ (Before D held i j → ⊥)
  lacked_is i j = (
    λ o b. both_ways _ ((lacked_hb D held posted i j).0 o) ((before_hb D held posted i j).0 b),
    λ n. (lacked_hb D held posted i j).1 (ne_true _ (λ e. n ((before_hb D held posted i j).1 e))),
  )

  module _ (columns : List Column) (right : Right D held columns) where
    lacks : (i j : ℕ) → j < length held → (not (pairs_in columns i j) ≡ true) ↔ (Before D held i j → ⊥)
    lacks i j l = Decides-not _ (right i j l)

    pub racing_is : (i j : ℕ) → i < j → j < length held → (racing held columns i j ≡ true) ↔ Race D held i j
    racing_is i j l u =
        let both = Decides-and _ _ (conflicting_is held i j) (lacks i j u) in (
          λ e. let (c, n) = both.0 e in (l, u, c, (lacked_is i j).1 n),
          λ (_, _, c, n). both.1 (c, (lacked_is i j).0 n),
        )

    -- ---- Co-enabled

    unordered_is :
        (P Q : ℕ → Type 0) (o p : Option ℕ)
        → Finds o P
        → Finds p Q
        → ((b : ℕ) → Q b → b < length held)
        → (unordered columns o p ≡ true) ↔ ((a b : ℕ) × P a × Q b × (a ≡ b → ⊥) × (Before D held a b → ⊥))
    unordered_is P Q None None f g w = (λ e. absurd (clash e), λ (a, b, x, _, _, _). absurd (clash ((f a).1 x)))
    unordered_is P Q None (Some b) f g w = (λ e. absurd (clash e), λ (a, _, x, _, _, _). absurd (clash ((f a).1 x)))
    unordered_is P Q (Some a) None f g w = (λ e. absurd (clash e), λ (_, b, _, y, _, _). absurd (clash ((g b).1 y)))
    unordered_is P Q (Some a) (Some b) f g w =
        let x : P a = (f a).0 (eq-eqb a a refl) in
        let y : Q b = (g b).0 (eq-eqb b b refl) in
        let both = Decides-and _ _ (Decides-not _ (Decides-eqb a b)) (lacks a b (w b y)) in (
          λ e. let (m, n) = both.0 e in (a, b, x, y, m, n),
          λ (c, d, z, v, m, n).
              let s : a ≡ c = eqb-true a c ((f c).1 z) in
              let t : b ≡ d = eqb-true b d ((g d).1 v) in
              both.1 (λ e. m (sym s ∙ (e ∙ t)), λ h. n (subst (λ k. Before D held k d) s (subst (Before D held a) t h))),
        )

-- ---- Apart

differs_is :
    (trace : List Row) (P : ℕ → Type 0) (i j : ℕ) (o p : Option ℕ)
    → Finds o (Nearest trace P i)
    → Finds p (Nearest trace P j)
    → (differs o p ≡ true) ↔ Apart trace P i j
differs_is trace P i j None None f g =
    (λ e. absurd (clash e), ⊎_elim (λ (a, x, _). absurd (clash ((f a).1 x))) (λ (b, y, _). absurd (clash ((g b).1 y))))
differs_is trace P i j None (Some b) f g =
    (λ _. inr (b, (g b).0 (eq-eqb b b refl), λ a x _. clash ((f a).1 x)), λ _. refl)
differs_is trace P i j (Some a) None f g =
    (λ _. inl (a, (f a).0 (eq-eqb a a refl), λ b y _. clash ((g b).1 y)), λ _. refl)
differs_is trace P i j (Some a) (Some b) f g =
    let x : Nearest trace P i a = (f a).0 (eq-eqb a a refl) in
    let y : Nearest trace P j b = (g b).0 (eq-eqb b b refl) in
    let d = Decides-not _ (Decides-eqb a b) in (
      λ e. inl (a, x, λ c z q. d.0 e (q ∙ sym (eqb-true b c ((g c).1 z)))),
      ⊎_elim
          (λ (c, z, n). d.1 (λ q. n b y (sym (eqb-true a c ((f c).1 z)) ∙ q)))
          (λ (c, z, n). d.1 (λ q. n a x (q ∙ eqb-true b c ((g c).1 z)))),
    )

-- ---- The first class that fits

module _ (D : Precedence) (held : List Row) (i j : ℕ) where
  first_class :
      (m e d f : Bool)
      → (m ≡ true) ↔ MultiThreaded held i j
      → (e ≡ true) ↔ CoEnabled D held i j
      → (d ≡ true) ↔ DelayApart held i j
      → (m ≡ false → (f ≡ true) ↔ CrossPosted held i j)
      → Class D held i j
      (race_number (cond m IsMultiThreaded (cond e IsCoEnabled (cond d IsDelayed (cond f IsCrossPosted Unknown)))))
  first_class true e d f p q r s = multi_threaded (p.0 refl)
  first_class false true d f p q r s = co_enabled (λ h. clash (p.1 h)) (q.0 refl)
  first_class false false true f p q r s = delayed (λ h. clash (p.1 h)) (λ h. clash (q.1 h)) (r.0 refl)
  first_class false false false true p q r s =
      cross_posted (λ h. clash (p.1 h)) (λ h. clash (q.1 h)) (λ h. clash (r.1 h)) ((s refl).0 refl)
  first_class false false false false p q r s =
      unknown (λ h. clash (p.1 h)) (λ h. clash (q.1 h)) (λ h. clash (r.1 h)) (λ h. clash ((s refl).1 h))

module _
    (D : Precedence) (held : List Row) (columns : List Column) (nearests : List NearestPosts)
    (posted : PostedFirst held) (right : Right D held columns) (near : NearestRight held nearests)
  where
    pub class_is :
        (i j : ℕ) → i < length held → j < length held → Class D held i j (race_number (class_at held columns nearests i j))
    class_is i j l u =
        let p = near i l in
        let q = near j u in
        first_class D held i j _ _ _ _
        (Decides-not _ (Decides-eqb (thread held i) (thread held j)))
        (unordered_is D held posted columns right (Nearest held (Environment held) i) (Nearest held (Environment held) j)
        (nearest_at nearests i).environment (nearest_at nearests j).environment
        p.environment q.environment
        (λ b h. let e = nearest_earlier held posted (Environment held) h u in omega arith))
        (differs_is held (Delayed held) i j (nearest_at nearests i).delayed (nearest_at nearests j).delayed p.delayed q.delayed)
        (λ m.
        let t : thread held j ≡ thread held i = sym (eqb-true _ _ (not-false _ m)) in
        differs_is held (Foreign held (thread held i)) i j (nearest_at nearests i).foreign (nearest_at nearests j).foreign
        p.foreign
        (subst (λ t. Finds (nearest_at nearests j).foreign (Nearest held (Foreign held t) j)) t q.foreign))

    classed_test :
        (i j lo hi : ℕ) (b : Bool) (c : RaceClass)
        → lo ≡ min i j
        → hi ≡ max i j
        → (b ≡ true) ↔ Race D held lo hi
        → (b ≡ true → Class D held lo hi (race_number c))
        → Classed D held i j (class_number (cond b (Some c) None))
    classed_test i j lo hi true c s t races class =
        race (subst (λ k. Race D held k (max i j)) s (subst (Race D held lo) t (races.0 refl)))
        (subst (λ k. Class D held k (max i j) (race_number c)) s (subst (λ k. Class D held lo k (race_number c)) t (class refl)))
    classed_test i j lo hi false c s t races class =
        no_race (λ h. clash (races.1 (subst (λ k. Race D held k hi) (sym s) (subst (Race D held (min i j)) (sym t) h))))

    -- the class of i and j, of which lo is the lower and hi the higher
    pub classed_is :
        (i j lo hi : ℕ) (r : Option RaceClass)
        → lo ≡ min i j
        → hi ≡ max i j
        → lo < hi
        → r ≡ cond (ltb hi (length held) && racing held columns lo hi) (Some (class_at held columns nearests lo hi)) None
        → Classed D held i j (class_number r)
    classed_is i j lo hi r s t l is =
        subst (λ r. Classed D held i j (class_number r)) (sym is)
        (classed_test i j lo hi (ltb hi (length held) && racing held columns lo hi) (class_at held columns nearests lo hi) s t (
          λ e.
              let (u, k) = and_parts (ltb hi (length held)) _ e in
              (racing_is D held posted columns right lo hi l (ltb-true _ _ u)).0 k,
          λ h.
              let u : hi < length held = h.1 in
              and_from (ltb hi (length held)) _ (lt-ltb _ _ u) ((racing_is D held posted columns right lo hi l u).1 h),
        )
        (λ e.
        let u = ltb-true hi (length held) (and_parts (ltb hi (length held)) _ e).0 in
        class_is lo hi (omega arith) u))

-- a position does not race with itself
pub classed_same : (D : Precedence) (held : List Row) (i j : ℕ) → i ≡ j → Classed D held i j 0
classed_same D held i j e = no_race (λ (l, _, _, _). let z : ⊥ = omega arith in z)
