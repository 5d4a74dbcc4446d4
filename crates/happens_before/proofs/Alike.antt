-- Traces that are alike up to a position: the same codes and marks, and the same numbers equal to one another.
use Rattle.std.proofs.Common.{◌≡◌, ℕ, ◌<◌, ◌≤◌, true, cond, ◌⊎◌, ◌↔◌, List, sym, refl, ap, ◌∙◌, subst, subst₂, inl, inr, arith}
use Rattle.std.proofs.lemmas.Grind.{common_steps}
use Rattle.recording.specs.Codes.{has_task, has_lock, has_location, has_target}
use Rattle.recording.specs.declared.row.Row.{Row}
use Rattle.happens_before.specs.Trace.{row, code, thread, item, target, marks, Belongs, Posts}
use Rattle.happens_before.specs.Order.{Precedence, Pairs, Handover}
use Rattle.happens_before.proofs.Tested.{same_answer}
use Rattle.happens_before.proofs.Rules.{Base, program_order, task_order, attach_order, enable_order, post_order, fork_order, join_order, lock_order, queue_order, run_to_completion, test_base, base, through}

-- what the item of an operation is
pub data Kind : Type 0 where
  task lock location nothing : Kind

abbrev pub kind : ℕ → Kind
kind c = cond (has_task c) task (cond (has_lock c) lock (cond (has_location c) location nothing))

pub record Alike (n : ℕ) (xs ys : List Row) : Type 0 where
  pub codes : (i : ℕ) → i < n → code xs i ≡ code ys i
  pub marked : (i : ℕ) → i < n → marks xs i ≡ marks ys i
  pub threads : (i j : ℕ) → i < n → j < n → (thread xs i ≡ thread xs j) ↔ (thread ys i ≡ thread ys j)
  pub targets :
      (i j : ℕ)
      → i < n
      → j < n
      → has_target (code xs i) ≡ true
      → (target xs i ≡ thread xs j) ↔ (target ys i ≡ thread ys j)
  pub items :
      (i j : ℕ)
      → i < n
      → j < n
      → kind (code xs i) ≡ kind (code xs j)
      → (item xs i ≡ item xs j) ↔ (item ys i ≡ item ys j)

pub alike_sym : {n : ℕ} {xs ys : List Row} → Alike n xs ys → Alike n ys xs
alike_sym a = grind (arith, common_steps)

pub alike_less : {n : ℕ} {xs ys : List Row} (m : ℕ) → m ≤ n → Alike n xs ys → Alike m xs ys
alike_less m le a =
    record {
      codes = λ i l. a.codes i (omega arith);
      marked = λ i l. a.marked i (omega arith);
      threads = λ i j l u. a.threads i j (omega arith) (omega arith);
      targets = λ i j l u. a.targets i j (omega arith) (omega arith);
      items = λ i j l u. a.items i j (omega arith) (omega arith);
    }

-- the same rows up to n
pub alike_rows : (n : ℕ) (xs ys : List Row) → ((i : ℕ) → i < n → row xs i ≡ row ys i) → Alike n xs ys
alike_rows n xs ys same = grind (arith, common_steps)

pub alike_refl : (n : ℕ) (xs : List Row) → Alike n xs xs
alike_refl n xs = alike_rows n xs xs (λ i l. refl)

module _ (n : ℕ) (xs ys : List Row) (a : Alike n xs ys) where
  pub code_alike : (i c : ℕ) → i < n → code xs i ≡ c → code ys i ≡ c
  code_alike i c l e = sym (a.codes i l) ∙ e

  code_back : (i c : ℕ) → i < n → code ys i ≡ c → code xs i ≡ c
  code_back i c l e = a.codes i l ∙ e

  -- of two operations by their codes, whose items are of one kind
  pub item_alike :
      (i j c d : ℕ)
      → i < n
      → j < n
      → code xs i ≡ c
      → code xs j ≡ d
      → kind c ≡ kind d
      → (item xs i ≡ item xs j) ↔ (item ys i ≡ item ys j)
  item_alike i j c d l u p q k = a.items i j l u (ap kind p ∙ (k ∙ sym (ap kind q)))

  -- x names a task
  pub posts_alike :
      (b x : ℕ) → b < n → x < n → kind (code xs x) ≡ task → Posts xs b (item xs x) → Posts ys b (item ys x)
  posts_alike b x l u k (p, q) = (code_alike b _ l p, (item_alike b x _ _ l u p refl (sym k)).0 q)

  pub belongs_alike :
      (i x : ℕ) → i < n → x < n → kind (code xs x) ≡ task → Belongs xs i (item xs x) → Belongs ys i (item ys x)
  belongs_alike i x l u k (b, bi, (p, q, r), o) =
      let bn : b < n = omega arith in (
        b,
        bi,
        (code_alike b _ bn p, (a.threads b i bn l).0 q, (item_alike b x _ _ bn u p refl (sym k)).0 r),
        λ e be ei (p', q', r').
            let en : e < n = omega arith in
            let c = code_back e _ en p' in
            o e be ei (c, (a.threads e i en l).1 q', (item_alike e x _ _ en u c refl (sym k)).1 r'),
      )

  module _ (D : Precedence) (R S : Pairs) (i j : ℕ) (ij : i < j) (jn : j < n) where
    i_below : i < n
    i_below = omega arith

    handover_alike : Handover xs i j → Handover ys i j
    handover_alike (p, q, r) = (code_alike i _ i_below p, code_alike j _ jn q, (a.threads i j i_below jn).0 r)

    is_task : (x c : ℕ) → code xs x ≡ c → kind c ≡ task → kind (code xs x) ≡ task
    is_task x c p k = ap kind p ∙ k

    pub base_to : ((k b : ℕ) → b < j → R k b ≡ true → S k b ≡ true) → Base D xs R i j → Base D ys S i j
    base_to w (program_order (p, q)) = grind (arith, common_steps)
    base_to w (task_order (p, v, u)) =
        let b = v.0 in
        let le = v.1 in
        let e : p ≡ item xs b = sym v.2.2 in
        let bn : b < n = omega (arith, i_below) in
        let k = is_task b _ v.2.0 refl in
        task_order (
          item ys b,
          belongs_alike i b i_below bn k (subst (Belongs xs i) e v),
          belongs_alike j b jn bn k (subst (Belongs xs j) e u),
        )
    base_to w (attach_order (p, q, r, s)) = grind (arith, common_steps)
    base_to w (enable_order (p, q, r)) = grind (arith, common_steps)
    base_to w (post_order (p, q, r)) = grind (arith, common_steps)
    base_to w (fork_order (p, q, r)) = grind (arith, common_steps)
    base_to w (join_order (p, q, r)) = grind (arith, common_steps)
    base_to w (lock_order (p, q, r, s)) = grind (arith, common_steps)
    base_to w (queue_order (t, (x, b, xj, bj, p, q, r, d))) =
        let xn : x < n = omega arith in
        let bn : b < n = omega arith in
        queue_order (
          handover_alike t,
          (
            x,
            b,
            xj,
            bj,
            posts_alike x i xn i_below (is_task i _ t.0 refl) p,
            posts_alike b j bn jn (is_task j _ t.1 refl) q,
            w x b bj r,
            subst₂ (λ e f. D e f ≡ true) (a.marked x xn) (a.marked b bn) d,
          ),
        )
    base_to w (run_to_completion (t, (k, b, kj, bj, p, q, r))) =
        let kn : k < n = omega arith in
        let bn : b < n = omega arith in
        let go : (k ≡ b) ⊎ (R k b ≡ true) → (k ≡ b) ⊎ (S k b ≡ true) = elim [ inl e ↦ inl e | inr e ↦ inr (w k b bj e) ] in
        run_to_completion (
          handover_alike t,
          (
            k,
            b,
            kj,
            bj,
            belongs_alike k i kn i_below (is_task i _ t.0 refl) p,
            posts_alike b j bn jn (is_task j _ t.1 refl) q,
            go r,
          ),
        )

-- ---- So the tests of the rules give the same

module _ (n : ℕ) (xs ys : List Row) (a : Alike n xs ys) where
  pub base_alike :
      (D : Precedence) (R S : Pairs) (i j : ℕ)
      → j < n
      → ((k b : ℕ) → b < j → R k b ≡ S k b)
      → base D xs R i j ≡ base D ys S i j
  unfolding base
  base_alike D R S i j jn same =
      same_answer (test_base D xs R i j) (test_base D ys S i j)
      (λ (l, b). (l, base_to n xs ys a D R S i j l jn (λ k b bj e. sym (same k b bj) ∙ e) b))
      (λ (l, b). (l, base_to n ys xs (alike_sym a) D S R i j l jn (λ k b bj e. same k b bj ∙ e) b))

  pub through_alike : (j i k : ℕ) → j < n → i < n → k < n → through xs j i k ≡ through ys j i k
  unfolding through
  through_alike j i k l u v = grind (arith, common_steps)
