-- Traces that agree have the same races, of the same classes; and a pair has one class.
use Rattle.std.proofs.Common.{◌≡◌, ℕ, ◌<◌, ◌⊎◌, ◌↔◌, List, length, false, sym, refl, ◌∙◌, subst, inl, inr, arith}
use Rattle.std.proofs.lemmas.Grind.{common_steps}
use Rattle.recording.specs.declared.row.Row.{Row}
use Rattle.happens_before.specs.Trace.{thread}
use Rattle.happens_before.specs.Order.{Precedence}
use Rattle.happens_before.specs.Race.{Conflict, Race, TaskPost, Nearest, first, later, Environment, Delayed, Foreign, Apart}
use Rattle.happens_before.specs.Race.{MultiThreaded, CoEnabled, DelayApart, CrossPosted, Class, multi_threaded, co_enabled, delayed, cross_posted, unknown}
use Rattle.happens_before.specs.Theorems.{PostedFirst, SameBelow}
use Rattle.happens_before.proofs.Tested.{Tested, equal, both, either}
use Rattle.happens_before.proofs.Columns.{hb}
use Rattle.happens_before.proofs.Least.{lacked_hb}
use Rattle.happens_before.proofs.Agree.{Agree, agree_sym, before_agree, lacked_agree}

-- ---- A chain goes back

module _ (trace : List Row) (posted : PostedFirst trace) where
  -- the post stands before the begin of the task, of which i is at or behind it
  pub task_post_earlier : (i a : ℕ) → i < length trace → TaskPost trace i a → a < i
  task_post_earlier i a l p = grind (arith, common_steps)

  pub nearest_earlier : (P : ℕ → Type 0) {i a : ℕ} → Nearest trace P i a → i < length trace → a < i
  nearest_earlier P (first t p) l = task_post_earlier _ _ l t
  nearest_earlier P (later t p h) l =
      let b = task_post_earlier _ _ l t in
      let a = nearest_earlier P h (omega arith) in
      omega arith

-- the first post that fits is one, where an operation has one task and a task one post
pub nearest_one :
    (trace : List Row)
    → ((i a b : ℕ) → TaskPost trace i a → TaskPost trace i b → a ≡ b)
    → (P : ℕ → Type 0) {i a b : ℕ}
    → Nearest trace P i a
    → Nearest trace P i b
    → a ≡ b
nearest_one trace one P (first t p) (first t' p') = one _ _ _ t t'
nearest_one trace one P (first t p) (later t' n h) = absurd (n (subst P (one _ _ _ t t') p))
nearest_one trace one P (later t n h) (first t' p') = absurd (n (subst P (one _ _ _ t' t) p'))
nearest_one trace one P (later t n h) (later {a = b} t' n' h') =
    nearest_one trace one P h (subst (λ x. Nearest trace P x b) (one _ _ _ t' t) h')

-- ---- From one trace to one that agrees with it

module _ {n : ℕ} {xs ys : List Row} (g : Agree n xs ys) where
  conflict_to : (i j : ℕ) → i < n → j < n → Conflict xs i j → Conflict ys i j
  conflict_to i j l u c = grind (arith, common_steps)

  task_post_to : (i a : ℕ) → i < n → TaskPost xs i a → TaskPost ys i a
  task_post_to i a l p = grind (arith, common_steps)

  -- of a fact that the two traces have of the same positions
  nearest_to :
      (P Q : ℕ → Type 0)
      → ((b : ℕ) → b < n → P b ↔ Q b)
      → {i a : ℕ}
      → Nearest xs P i a
      → i < n
      → Nearest ys Q i a
  nearest_to P Q same (first {i = i} {a = a} t p) l =
      let h = g.held in
      let ai = task_post_earlier xs g.posted i a (omega arith) t in
      first (task_post_to i a l t) ((same a (omega arith)).0 p)
  nearest_to P Q same (later {i = i} {b = b} {a = a} t p r) l =
      let h = g.held in
      let bi = task_post_earlier xs g.posted i b (omega arith) t in
      let bn : b < n = omega arith in
      later (task_post_to i b l t) (λ q. p ((same b bn).1 q)) (nearest_to P Q same r bn)

  environment_same : (b : ℕ) → b < n → Environment xs b ↔ Environment ys b
  environment_same b l = grind (arith, common_steps)

  delayed_same : (b : ℕ) → b < n → Delayed xs b ↔ Delayed ys b
  delayed_same b l = grind (arith, common_steps)

  foreign_same : (i : ℕ) → i < n → (b : ℕ) → b < n → Foreign xs (thread xs i) b ↔ Foreign ys (thread ys i) b
  foreign_same i u b l = grind (arith, common_steps)

-- ---- So they have the same of each

module _ {n : ℕ} {xs ys : List Row} (g : Agree n xs ys) where
  pub conflict_agree : (i j : ℕ) → i < n → j < n → Conflict xs i j ↔ Conflict ys i j
  conflict_agree i j l u = (conflict_to g i j l u, conflict_to (agree_sym g) i j l u)

  pub task_post_agree : (i a : ℕ) → i < n → TaskPost xs i a ↔ TaskPost ys i a
  task_post_agree i a l = (task_post_to g i a l, task_post_to (agree_sym g) i a l)

  pub nearest_agree :
      (P Q : ℕ → Type 0)
      → ((b : ℕ) → b < n → P b ↔ Q b)
      → (i a : ℕ)
      → i < n
      → Nearest xs P i a ↔ Nearest ys Q i a
  nearest_agree P Q same i a l = (
    λ h. nearest_to g P Q same h l,
    λ h. nearest_to (agree_sym g) Q P (λ b u. ((same b u).1, (same b u).0)) h l,
  )

  pub nearest_environment :
      (i a : ℕ) → i < n → Nearest xs (Environment xs) i a ↔ Nearest ys (Environment ys) i a
  nearest_environment = nearest_agree _ _ (environment_same g)

  pub nearest_delayed : (i a : ℕ) → i < n → Nearest xs (Delayed xs) i a ↔ Nearest ys (Delayed ys) i a
  nearest_delayed = nearest_agree _ _ (delayed_same g)

  pub nearest_foreign :
      (k : ℕ)
      → k < n
      → (i a : ℕ)
      → i < n
      → Nearest xs (Foreign xs (thread xs k)) i a ↔ Nearest ys (Foreign ys (thread ys k)) i a
  nearest_foreign k u = nearest_agree _ _ (foreign_same g k u)

  -- ---- Classes, one way

  module _ (D : Precedence) (i j : ℕ) (l : i < n) (u : j < n) where
    multi_threaded_to : MultiThreaded xs i j → MultiThreaded ys i j
    multi_threaded_to f e = f ((g.alike.threads i j l u).1 e)

    co_enabled_to : CoEnabled D xs i j → CoEnabled D ys i j
    co_enabled_to (a, b, p, q, ne, nb) =
        let h = g.held in
        let bj = nearest_earlier xs g.posted _ q (omega arith) in (
          a,
          b,
          (nearest_environment i a l).0 p,
          (nearest_environment j b u).0 q,
          ne,
          λ h. nb ((before_agree g D a b (omega arith)).1 h),
        )

    apart_to :
        (P Q : ℕ → Type 0) → ((b : ℕ) → b < n → P b ↔ Q b) → Apart xs P i j → Apart ys Q i j
    apart_to P Q same (inl (a, p, o)) =
        inl (a, (nearest_agree P Q same i a l).0 p, λ b q. o b ((nearest_agree P Q same j b u).1 q))
    apart_to P Q same (inr (b, q, o)) =
        inr (b, (nearest_agree P Q same j b u).0 q, λ a p. o a ((nearest_agree P Q same i a l).1 p))

    delay_apart_to : DelayApart xs i j → DelayApart ys i j
    delay_apart_to = apart_to _ _ (delayed_same g)

    cross_posted_to : CrossPosted xs i j → CrossPosted ys i j
    cross_posted_to = apart_to _ _ (foreign_same g i l)

module _ {n : ℕ} {xs ys : List Row} (g : Agree n xs ys) (D : Precedence) (i j : ℕ) (l : i < n) (u : j < n) where
  class_to : (c : ℕ) → Class D xs i j c → Class D ys i j c
  class_to c k = to k
    where
      back : Agree n ys xs
      back = agree_sym g

      no_multi_threaded : (MultiThreaded xs i j → ⊥) → MultiThreaded ys i j → ⊥
      no_multi_threaded f h = f (multi_threaded_to back D i j l u h)

      no_co_enabled : (CoEnabled D xs i j → ⊥) → CoEnabled D ys i j → ⊥
      no_co_enabled f h = f (co_enabled_to back D i j l u h)

      no_delay_apart : (DelayApart xs i j → ⊥) → DelayApart ys i j → ⊥
      no_delay_apart f h = f (delay_apart_to back D i j l u h)

      no_cross_posted : (CrossPosted xs i j → ⊥) → CrossPosted ys i j → ⊥
      no_cross_posted f h = f (cross_posted_to back D i j l u h)

      to : {c : ℕ} → Class D xs i j c → Class D ys i j c
      to (multi_threaded m) = multi_threaded (multi_threaded_to g D i j l u m)
      to (co_enabled m e) = co_enabled (no_multi_threaded m) (co_enabled_to g D i j l u e)
      to (delayed m e d) = delayed (no_multi_threaded m) (no_co_enabled e) (delay_apart_to g D i j l u d)
      to (cross_posted m e d p) =
          cross_posted (no_multi_threaded m) (no_co_enabled e) (no_delay_apart d) (cross_posted_to g D i j l u p)
      to (unknown m e d p) =
          unknown (no_multi_threaded m) (no_co_enabled e) (no_delay_apart d) (no_cross_posted p)

module _ {n : ℕ} {xs ys : List Row} (g : Agree n xs ys) (D : Precedence) (i j : ℕ) where
  pub class_agree : i < n → j < n → (c : ℕ) → Class D xs i j c ↔ Class D ys i j c
  class_agree l u c = (class_to g D i j l u c, class_to (agree_sym g) D i j l u c)

  pub race_agree : j < n → Race D xs i j ↔ Race D ys i j
  race_agree u = (to g, to (agree_sym g))
    where
      to : {xs ys : List Row} → Agree n xs ys → Race D xs i j → Race D ys i j
      to h (ij, jl, c, lacks) =
          let held = h.held' in
          (ij, omega arith, (conflict_agree h i j (omega arith) u).0 c, (lacked_agree h D i j u).0 lacks)

-- ---- Races by the computed order

abbrev pub test_conflict : (trace : List Row) (i j : ℕ) → Tested (Conflict trace i j)
test_conflict trace i j =
    both (equal _ _)
    (λ _.
    either (both (equal _ _) (λ _. equal _ _))
    (λ _. either (both (equal _ _) (λ _. equal _ _)) (λ _. both (equal _ _) (λ _. equal _ _))))

pub race_hb :
    (D : Precedence) (trace : List Row)
    → PostedFirst trace
    → (i j : ℕ)
    → Race D trace i j ↔ ((i < j) × (j < length trace) × Conflict trace i j × (hb D trace i j ≡ false))
race_hb D trace posted i j =
    let e = lacked_hb D trace posted i j in
    (λ (ij, l, c, o). (ij, l, c, e.0 o), λ (ij, l, c, o). (ij, l, c, e.1 o))

-- ---- One class

-- the number k where P holds, and else what Q says
Falls : Type 0 → ℕ → (ℕ → Type 0) → ℕ → Type 0
Falls P k Q c = (P × (c ≡ k)) ⊎ ((P → ⊥) × Q c)

One : (ℕ → Type 0) → Type 0
One Q = (c d : ℕ) → Q c → Q d → c ≡ d

falls_one : (P : Type 0) (k : ℕ) (Q : ℕ → Type 0) → One Q → One (Falls P k Q)
unfolding Falls One
falls_one P k Q one c d f g = grind (arith, common_steps)

module _ (D : Precedence) (trace : List Row) (i j : ℕ) where
  Falling : ℕ → Type 0
  Falling =
      Falls (MultiThreaded trace i j) 1
      (Falls (CoEnabled D trace i j) 2
      (Falls (DelayApart trace i j) 3 (Falls (CrossPosted trace i j) 4 (λ c. c ≡ 5))))

  falling : {c : ℕ} → Class D trace i j c → Falling c
  unfolding Falling Falls
  falling (multi_threaded m) = inl (m, refl)
  falling (co_enabled m e) = inr (m, inl (e, refl))
  falling (delayed m e d) = inr (m, inr (e, inl (d, refl)))
  falling (cross_posted m e d p) = inr (m, inr (e, inr (d, inl (p, refl))))
  falling (unknown m e d p) = inr (m, inr (e, inr (d, inr (p, refl))))

  pub class_one : (c d : ℕ) → Class D trace i j c → Class D trace i j d → c ≡ d
  unfolding Falling One
  class_one c d p q =
      falls_one _ 1 _ (falls_one _ 2 _ (falls_one _ 3 _ (falls_one _ 4 _ (λ a b e f. e ∙ sym f))))
      c d (falling p) (falling q)

-- ---- All of this, in one

pub same_below : (D : Precedence) {n : ℕ} {xs ys : List Row} → Agree n xs ys → SameBelow D n xs ys
same_below D g =
    record {
      before = before_agree g D;
      races = race_agree g D;
      classes = λ i j c l u. class_agree g D i j l u c;
    }
