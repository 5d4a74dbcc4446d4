-- What a list gives whose operations were each accepted on what stood before.
use Rattle.std.proofs.Common.{◌≡◌, ℕ, ◌<◌, ◌≤◌, Bool, true, false, not, ◌&&◌, ◌||◌, eqb, List, [], ◌∷◌, ◌++◌, length, take, None, sym, refl, ap, ◌∙◌, subst, ⊎_elim, arith, eq-eqb, eqb-true, leb-false}
use Rattle.std.proofs.lemmas.Grind.{common_steps}
use borrow.Author.Tests.{not-true, both_ways, lt-leb}
use Rattle.std.proofs.lemmas.List.{length-take}
use Rattle.std.proofs.lemmas.Bool.{cases_order, cases_lt, and_parts, and_from, or_parts}
use Rattle.recording.specs.Codes.{post, begin, end}
use Rattle.recording.specs.Faults.{first}
use Rattle.recording.specs.Lawful.{lawful}
use Rattle.recording.specs.declared.row.Row.{Row}
use Rattle.recording.proofs.LawfulRows.{passed, thread_fits, target_fits, task_fits, lock_fits, item_fits}
use Rattle.happens_before.specs.Trace.{row, code, thread, item, Does, Belongs, Posts}
use Rattle.happens_before.specs.Race.{TaskPost}
use Rattle.happens_before.specs.Theorems.{PostedFirst, InRange, AllInRange}
use Rattle.rules.specs.declared.faults.StateFault.TheVariants.{Full, ThreadNotReady, WrongTarget, WrongQueue, WrongLock, OutOfTurn, NotAdmitted}
use Rattle.rules.specs.Acceptance.{Setting, is_on, does_on, current, busy, posted, begun, waits, thread_not_ready, wrong_target, wrong_queue, wrong_lock, out_of_turn, not_admitted, state_tests, refusal}
use Rattle.rules.specs.Fair.{Fair, FairTables, no_discipline, turn_without_discipline, refused_by_tables}
use Rattle.rules.proofs.Places.{coded_held, some_before, found_before, lasting_before}
use Rattle.rules.proofs.Pushes.{some_below_true}

-- ---- What an accepted operation passed

pub record Accepted (s : Setting) (held : List Row) (o : Row) : Type 0 where
  pub room : length held < 512
  pub thread_ready : thread_not_ready s held o ≡ false
  pub right_target : wrong_target s held o ≡ false
  pub right_queue : wrong_queue s held o ≡ false
  pub right_lock : wrong_lock s held o ≡ false
  pub in_turn : out_of_turn s held o ≡ false
  pub admitted : not_admitted s held o ≡ false

pub accepted : (s : Setting) (held : List Row) (o : Row) → refusal s held o ≡ None → Accepted s held o
unfolding refusal
accepted s held o h =
    let no = λ (n : ℕ). passed n (state_tests s held o) h in
    record {
      room = leb-false 512 (length held) (no 0);
      thread_ready = no 1;
      right_target = no 2;
      right_queue = no 3;
      right_lock = no 4;
      in_turn = no 5;
      admitted = no 6;
    }

pub refusal_none : (s : Setting) (held : List Row) (o : Row) → Accepted s held o → refusal s held o ≡ None
unfolding refusal
refusal_none s held o a =
    λ t.
    first
    ((lt-leb 512 (length held) a.room t, Full)
    ∷ (a.thread_ready t, ThreadNotReady)
    ∷ (a.right_target t, WrongTarget)
    ∷ (a.right_queue t, WrongQueue)
    ∷ (a.right_lock t, WrongLock)
    ∷ (a.in_turn t, OutOfTurn)
    ∷ (a.admitted t, NotAdmitted)
    ∷ [])

pub record Allowed (initial : ℕ → Bool) (held : List Row) (o : Row) : Type 0 where
  pub thread_ready : thread_not_ready (no_discipline initial) held o ≡ false
  pub right_target : wrong_target (no_discipline initial) held o ≡ false
  pub right_queue : wrong_queue (no_discipline initial) held o ≡ false
  pub right_lock : wrong_lock (no_discipline initial) held o ≡ false
  pub in_turn : turn_without_discipline held o ≡ false

pub allowed :
    (initial : ℕ → Bool) (held : List Row) (o : Row) → refused_by_tables initial held o ≡ false → Allowed initial held o
unfolding refused_by_tables
allowed initial held o h =
    let a = or_parts _ _ h in
    let b = or_parts _ _ a.1 in
    let c = or_parts _ _ b.1 in
    let d = or_parts _ _ c.1 in
    record { thread_ready = a.0; right_target = b.0; right_queue = c.0; right_lock = d.0; in_turn = d.1 }

pub not_refused :
    (initial : ℕ → Bool) (held : List Row) (o : Row) → Allowed initial held o → refused_by_tables initial held o ≡ false
unfolding refused_by_tables
not_refused initial held o a = grind (arith, common_steps)

without : (a b c d e f : Bool) → (a || ((b && (c || (d || e))) || f)) ≡ false → (a || ((b && (c || d)) || f)) ≡ false
without a b c d e f h = grind (arith, common_steps)

pub accepted_allowed : (s : Setting) (held : List Row) (o : Row) → Accepted s held o → Allowed s.initial held o
accepted_allowed s held o a = grind (arith, common_steps)

pub fair_tables : (s : Setting) (held : List Row) → Fair s held → FairTables s.initial held
fair_tables s held fair i l =
    let (w, h) = fair i l in
    (w, not_refused _ _ _ (accepted_allowed s (take i held) (row held i) (accepted s (take i held) (row held i) h)))

pub fair_length : (s : Setting) (held : List Row) → Fair s held → length held ≤ 512
fair_length s held fair =
    ⊎_elim
    (λ l.
    let a = (accepted s (take 512 held) (row held 512) (fair 512 l).1).room in
    let e = length-take 512 held in
    let n : ⊥ = omega arith in
    absurd n)
    (λ l. l)
    (cases_lt 512 (length held))

-- ---- Lists with a fact of each operation and what stood before it

abbrev Each : (List Row → Row → Type 0) → List Row → Type 0
Each P held = (i : ℕ) → i < length held → P (take i held) (row held i)

each_none : (P : List Row → Row → Type 0) → Each P []
each_none P i l = let n : ⊥ = omega arith in absurd n

each_push : (P : List Row → Row → Type 0) (held : List Row) (o : Row) → Each P held → P held o → Each P (held ++ o ∷ [])
each_push P held o each new i l = grind (arith, common_steps)

each_cut : (P : List Row → Row → Type 0) (n : ℕ) (held : List Row) → Each P held → Each P (take n held)
each_cut P n held each i l = grind (arith, common_steps)

module _ (s : Setting) where
  FairAt : List Row → Row → Type 0
  FairAt held o = (lawful o ≡ true) × (refusal s held o ≡ None)

  pub fair_none : Fair s []
  unfolding FairAt
  fair_none = each_none FairAt

  pub fair_push :
      (held : List Row) (o : Row) → Fair s held → lawful o ≡ true → refusal s held o ≡ None → Fair s (held ++ o ∷ [])
  unfolding FairAt
  fair_push held o fair w h = each_push FairAt held o fair (w, h)

  pub fair_cut : (n : ℕ) (held : List Row) → Fair s held → Fair s (take n held)
  unfolding FairAt
  fair_cut = each_cut FairAt

module _ (initial : ℕ → Bool) where
  TableAt : List Row → Row → Type 0
  TableAt held o = (lawful o ≡ true) × (refused_by_tables initial held o ≡ false)

  pub tables_none : FairTables initial []
  unfolding TableAt
  tables_none = each_none TableAt

  pub tables_push :
      (held : List Row) (o : Row)
      → FairTables initial held
      → lawful o ≡ true
      → refused_by_tables initial held o ≡ false
      → FairTables initial (held ++ o ∷ [])
  unfolding TableAt
  tables_push held o fair w h = each_push TableAt held o fair (w, h)

  pub tables_cut : (n : ℕ) (held : List Row) → FairTables initial held → FairTables initial (take n held)
  unfolding TableAt
  tables_cut = each_cut TableAt

-- ---- What a fair list gives

pub in_range : (o : Row) → lawful o ≡ true → InRange o
in_range o w = (thread_fits o w, target_fits o w, task_fits o w, lock_fits o w, λ _. item_fits o w)

unless : (a c : ℕ) (y : Bool) → (eqb a c && y) ≡ false → a ≡ c → y ≡ false
unless a c y h e = ap (λ b. b && y) (sym (eq-eqb a c e)) ∙ h

module _ (initial : ℕ → Bool) (held : List Row) (o : Row) (a : Allowed initial held o) where
  pub post_turn : o.code ≡ post → posted held o.item ≡ false
  post_turn e = unless o.code post _ (or_parts (eqb o.code post && posted held o.item) _ a.in_turn).0 e

  pub begin_turn : o.code ≡ begin → (busy held o.thread ≡ false) × (waits held o.thread o.item ≡ true)
  begin_turn e = grind (arith, common_steps)

  pub end_turn : o.code ≡ end → current held o.thread o.item ≡ true
  end_turn e = grind (arith, common_steps)

module _ (initial : ℕ → Bool) (held : List Row) (fair : FairTables initial held) where
  pub lawful_at : (i : ℕ) → i < length held → lawful (row held i) ≡ true
  lawful_at i l = (fair i l).0

  pub allowed_at : (i : ℕ) → i < length held → Allowed initial (take i held) (row held i)
  allowed_at i l = allowed initial (take i held) (row held i) (fair i l).1

  pub all_in_range : AllInRange held
  all_in_range i l = in_range (row held i) (lawful_at i l)

  is_on_lem : (k c p : ℕ) → code held k ≡ c → item held k ≡ p → is_on c p (row held k) ≡ true
  is_on_lem k c p e f = and_from (eqb (code held k) c) _ (eq-eqb _ _ e) (eq-eqb _ _ f)

  -- a task is posted once
  no_later_post : (a b p : ℕ) → Posts held a p → Posts held b p → a < b → ⊥
  no_later_post a b p (c, i) (d, j) l =
      let u = coded_held held b _ d in
      both_ways _
      (post_turn initial (take b held) (row held b) (allowed_at b u) d)
      (some_before held b (is_on post (item held b)) a l (omega arith) (is_on_lem a post (item held b) c (i ∙ sym j)))

  pub one_post : (a b p : ℕ) → Posts held a p → Posts held b p → a ≡ b
  one_post a b p h g =
      ⊎_elim (λ e. e)
      (⊎_elim (λ l. absurd (no_later_post a b p h g l)) (λ l. absurd (no_later_post b a p g h l)))
      (cases_order a b)

  -- a task that begins was posted before, to the thread that begins it
  pub begin_posted :
      (j : ℕ)
      → code held j ≡ begin
      → (a : ℕ) × (a < j) × Posts held a (item held j) × ((row held a).target ≡ thread held j)
  begin_posted j e =
      let l = coded_held held j _ e in
      let w = (begin_turn initial (take j held) (row held j) (allowed_at j l) e).1 in
      let (p, _) = and_parts _ _ w in
      let r = found_before held j (λ (o : Row). is_on post (item held j) o && eqb o.target (thread held j)) p in
      let (h, t) = and_parts (is_on post (item held j) (row held r.0)) _ r.3 in
      let (c, i) = and_parts (eqb (code held r.0) post) _ h in
      (r.0, r.1, (eqb-true _ _ c, eqb-true _ _ i), eqb-true _ _ t)

  pub posted_first : PostedFirst held
  posted_first b j l e p =
      let r = begin_posted j e in
      let u = r.1 in
      let q = one_post r.0 b (item held j) r.2 p in
      omega arith

  -- a task begins once
  no_later_begin : (a b : ℕ) → code held a ≡ begin → code held b ≡ begin → item held a ≡ item held b → a < b → ⊥
  no_later_begin a b c d e l =
      let u = coded_held held b _ d in
      let w = (begin_turn initial (take b held) (row held b) (allowed_at b u) d).1 in
      let (_, n) = and_parts _ (not (begun (take b held) (item held b))) w in
      both_ways _ (not-true _ n)
      (some_before held b (is_on begin (item held b)) a l (omega arith) (is_on_lem a begin (item held b) c e))

  pub one_begin : (a b : ℕ) → code held a ≡ begin → code held b ≡ begin → item held a ≡ item held b → a ≡ b
  one_begin a b c d e =
      ⊎_elim (λ e. e)
      (⊎_elim (λ l. absurd (no_later_begin a b c d e l)) (λ l. absurd (no_later_begin b a d c (sym e) l)))
      (cases_order a b)

  does_not : (k c t p : ℕ) → (Does held k c t p → ⊥) → does_on c t p (row held k) ≡ false
  does_not k c t p n = grind (arith, common_steps)

  -- a thread begins no task while it has one
  no_begin_within :
      (i p a b : ℕ)
      → Does held a begin (thread held i) p
      → ((e : ℕ) → a ≤ e → e < i → Does held e end (thread held i) p → ⊥)
      → b ≤ i
      → code held b ≡ begin
      → thread held b ≡ thread held i
      → a < b
      → ⊥
  no_begin_within i p a b (c, t, f) lasts bi d u l =
      let lb = coded_held held b _ d in
      let la : a < length held = omega arith in
      let small : item held a < 512 = task_fits (row held a) (lawful_at a la) (rw c refl) in
      both_ways _
      (begin_turn initial (take b held) (row held b) (allowed_at b lb) d).0
      (some_below_true 512 (current (take b held) (thread held b)) p (subst (λ x. x < 512) f small)
      (lasting_before held b (does_on begin (thread held b) p) (does_on end (thread held b) p) a l la
      (and_from (eqb (code held a) begin && eqb (thread held a) (thread held b)) _
      (and_from (eqb (code held a) begin) _ (eq-eqb _ _ c) (eq-eqb _ _ (t ∙ sym u))) (eq-eqb _ _ f))
      (λ e ae eb.
      does_not e end (thread held b) p
      (λ (x, y, z). lasts e (omega arith) (omega arith) (x, y ∙ u, z)))))

  pub one_task : (i p q : ℕ) → Belongs held i p → Belongs held i q → p ≡ q
  one_task i p q (a, ai, x, n) (b, bi, y, m) =
      ⊎_elim
      (λ e. sym x.2 ∙ (ap (item held) e ∙ y.2))
      (⊎_elim
      (λ l. absurd (no_begin_within i p a b x n bi y.0 y.1 l))
      (λ l. absurd (no_begin_within i q b a y m ai x.0 x.1 l)))
      (cases_order a b)

  pub one_task_post : (i a b : ℕ) → TaskPost held i a → TaskPost held i b → a ≡ b
  one_task_post i a b (p, v, h) (q, w, g) =
      one_post a b p h (subst (Posts held b) (one_task i q p w v) g)
