-- A renaming changes no answer of a run.
use Rattle.std.proofs.Common.{◌≡◌, ℕ, ◌<◌, ◌≤◌, min, max, true, ◌⊎◌, List, [], ◌∷◌, ◌++◌, map, length, sym, refl, ◌∙◌, subst, subst₂, arith}
use lib.ListN.{length-map}
use Rattle.std.specs.List.{AllByRecursion}
use Rattle.std.proofs.lemmas.List.{map_push, take-map, take_at}
use Rattle.recording.specs.Lawful.{lawful}
use Rattle.recording.specs.declared.row.Row.{Row}
use Rattle.happens_before.specs.Order.{Precedence, Before as IsBefore}
use Rattle.happens_before.specs.Renaming.{Renaming, renamed}
use Rattle.happens_before.specs.Theorems.{PostedFirst, AllInRange, SameBelow}
use Rattle.happens_before.proofs.Agree.{agree_sym}
use Rattle.happens_before.proofs.Races.{same_below}
use Rattle.happens_before.proofs.Renamed.{agree_renamed, renamed_before}
use Rattle.rules.specs.declared.order.Order.{Order}
use Rattle.rules.specs.declared.race.RaceRow.{RaceRow}
use Rattle.rules.specs.Acceptance.{Setting, refusal}
use Rattle.rules.specs.Answers.{Count, Ordered, same, before, after, unordered, Classed, no_race, race, RaceList}
use Rattle.rules.specs.Fair.{Fair}
use Rattle.rules.specs.Runs.{Call, add, cut, Answer, added, cut_to, ordered, classed, Step, adds, refuses, cuts, cuts_not, orders, orders_not, classes, classes_not, lists, lists_not, Run, done, next, RenamedCall, add_renamed, cut_alike, order_alike, class_alike, list_alike, SameAnswer, equal, same_races, same_need, Pairwise, none, more, RenamedSetting, LawfulCall, SameRenamed}
use Rattle.rules.proofs.Determined.{step_one}
use Rattle.rules.proofs.Fair.{in_range, all_in_range, fair_tables, posted_first, fair_none, fair_push, fair_cut}
use Rattle.rules.proofs.RenamedAcceptance.{refusal_moved}

-- ---- What a call answers about traces that have the same below n

module _ {D : Precedence} {n : ℕ} {xs ys : List Row} (g : SameBelow D n xs ys) where
  ordered_same : {i j : ℕ} {w : Order} → i < n → j < n → Ordered D ys i j w → Ordered D xs i j w
  ordered_same l u (same e) = same e
  ordered_same l u (before b) = before ((g.before _ _ u).1 b)
  ordered_same l u (after b) = after ((g.before _ _ l).1 b)
  ordered_same l u (unordered e p q) =
      unordered e (λ b. p ((g.before _ _ u).0 b)) (λ b. q ((g.before _ _ l).0 b))

  classed_same : {i j c : ℕ} → i < n → j < n → Classed D ys i j c → Classed D xs i j c
  classed_same {i} {j} l u (no_race o) = no_race (λ r. o ((g.races (min i j) (max i j) (omega arith)).0 r))
  classed_same {i} {j} l u (race r k) =
      race ((g.races (min i j) (max i j) (omega arith)).1 r)
      ((g.classes (min i j) (max i j) _ (omega arith) (omega arith)).1 k)

  list_same : (rows : List RaceRow) → length xs ≤ n → length ys ≤ n → RaceList D ys rows → RaceList D xs rows
  list_same rows lx ly a =
      record {
        rising = a.rising;
        races =
            λ r i.
            let (is, k) = a.races r i in
            let l = is.0 in
            let u = is.1 in
            ((g.races _ _ (omega arith)).1 is, (g.classes _ _ _ (omega arith) (omega arith)).1 k);
        all = λ i j is. let u = is.1 in a.all i j ((g.races _ _ (omega arith)).0 is);
      }

-- ---- Steps

-- what is held stays fair
pub fair_after :
    (s : Setting) (held : List Row)
    → Fair s held
    → {c : Call} {a : Answer} {left : List Row}
    → LawfulCall c
    → Step s held c a left
    → Fair s left
fair_after s held fair w (adds e n) = fair_push s held _ fair w e
fair_after s held fair w (refuses e) = fair
fair_after s held fair w (cuts l) = fair_cut s _ held fair
fair_after s held fair w (cuts_not l) = fair
fair_after s held fair w (orders l u h) = fair
fair_after s held fair w (orders_not n) = fair
fair_after s held fair w (classes l u h) = fair
fair_after s held fair w (classes_not n) = fair
fair_after s held fair w (lists r l) = fair
fair_after s held fair w (lists_not r l) = fair

module _ (m : Renaming) (s s' : Setting) (like : RenamedSetting m s s') where
  -- of a fact that names the precedence
  turned : (F : Precedence → Type 0) → F s.precedence → F s'.precedence
  turned F = subst F (sym like.precedence)

  abbrev new : List Row → List Row
  new held = map (renamed m) held

  new_length : (held : List Row) → length (new held) ≡ length held
  new_length held = length-map held (renamed m)

  module _ (held : List Row) (fair : Fair s held) where
    ranged : AllInRange held
    ranged = all_in_range s.initial held (fair_tables s held fair)

    posted : PostedFirst held
    posted = posted_first s.initial held (fair_tables s held fair)

    alike : SameBelow s.precedence (length held) (new held) held
    alike = same_below s.precedence (agree_sym (agree_renamed m held ranged posted))

    refusal_same : (o : Row) → lawful o ≡ true → refusal s' (new held) (renamed m o) ≡ refusal s held o
    refusal_same o w = refusal_moved m s s' like held ranged o (in_range o w)

    races_moved :
        (rows : List RaceRow) → RaceList s.precedence held rows → RaceList s'.precedence (new held) rows
    races_moved rows r =
        let e = new_length held in
        turned (λ D. RaceList D (new held) rows) (list_same alike rows (omega arith) (omega arith) r)

  -- how many are before the position k
  abbrev Counts : Precedence → List Row → ℕ → ℕ → Type 0
  Counts D held k c = Count k (λ i. IsBefore D held i k) c

  count_moved :
      (held : List Row) (o : Row)
      → Fair s (held ++ o ∷ [])
      → (c : ℕ)
      → Counts s.precedence (held ++ o ∷ []) (length held) c
      → Counts s'.precedence (new held ++ renamed m o ∷ []) (length (new held)) c
  count_moved held o fair c n =
      turned (λ D. Counts D (new held ++ renamed m o ∷ []) (length (new held)) c)
      (subst₂ (λ k t. Counts s.precedence t k c) (sym (new_length held)) (map_push (renamed m) held o) counts)
    where
      counts : Counts s.precedence (new (held ++ o ∷ [])) (length held) c
      counts =
          record {
            test = n.test;
            tells =
                λ i l.
                let t = n.tells i l in
                let b = renamed_before m _ (ranged _ fair) s.precedence (posted _ fair) i (length held) in
                (λ e. b.1 (t.0 e), λ h. t.1 (b.0 h));
            counted = n.counted;
          }

  -- the renamed call has a step too, with the same answer
  abbrev Moved : List Row → Call → Answer → List Row → Type 0
  Moved held c a left = (b : Answer) × Step s' (new held) c b (new left) × SameAnswer a b

  step_moved :
      (held : List Row)
      → Fair s held
      → {c c' : Call} {a : Answer} {left : List Row}
      → LawfulCall c
      → Step s held c a left
      → RenamedCall m c c'
      → Moved held c' a left
  step_moved held fair w (adds {o = o} {c = c} e n) add_renamed = (
    added (length (new held)) c,
    subst (Step s' (new held) (add (renamed m o)) (added (length (new held)) c)) (sym (map_push (renamed m) held o))
        (adds (refusal_same held fair o w ∙ e) (count_moved held o (fair_push s held o fair w e) c n)),
    subst (λ k. SameAnswer (added (length held) c) (added k c)) (sym (new_length held)) equal,
  )
  step_moved held fair w (refuses {o = o} e) add_renamed = (_, refuses (refusal_same held fair o w ∙ e), equal)
  step_moved held fair w (cuts {n = n} l) cut_alike =
      let e = new_length held in
      let u : n ≤ length (new held) = omega arith in
      (cut_to n, subst (Step s' (new held) (cut n) (cut_to n)) (take-map (renamed m) n held) (cuts u), equal)
  step_moved held fair w (cuts_not l) cut_alike =
      let e = new_length held in
      (_, cuts_not (omega arith), equal)
  step_moved held fair w (orders {i = i} {j = j} {w = v} l u h) order_alike =
      let e = new_length held in (
        ordered v,
        orders (omega arith) (omega arith)
            (turned (λ D. Ordered D (new held) i j v) (ordered_same (alike held fair) l u h)),
        equal,
      )
  step_moved held fair w (orders_not {i = i} {j = j} n) order_alike =
      (_, orders_not (subst (λ k. (k ≤ i) ⊎ (k ≤ j)) (sym (new_length held)) n), equal)
  step_moved held fair w (classes {i = i} {j = j} {c = c} l u h) class_alike =
      let e = new_length held in (
        classed c,
        classes (omega arith) (omega arith)
            (turned (λ D. Classed D (new held) i j c) (classed_same (alike held fair) l u h)),
        equal,
      )
  step_moved held fair w (classes_not {i = i} {j = j} n) class_alike =
      (_, classes_not (subst (λ k. (k ≤ i) ⊎ (k ≤ j)) (sym (new_length held)) n), equal)
  step_moved held fair w (lists {races = races} r l) (list_alike {places' = places'} e) = (
    _,
    lists {places = places'} (races_moved held fair races r) (omega arith),
    same_races (take_at races _ (length races) refl ∙ sym (take_at races _ (length races) refl)),
  )
  step_moved held fair w (lists_not {races = races} r l) (list_alike {places' = places'} e) =
      (_, lists_not {places = places'} (races_moved held fair races r) (omega arith), same_need)

  -- ---- Runs

  run_moved :
      {held : List Row} {calls calls' : List Call} {answers answers' : List Answer} {left left' : List Row}
      → Fair s held
      → AllByRecursion LawfulCall calls
      → Run s held calls answers left
      → Pairwise (RenamedCall m) calls calls'
      → Run s' (new held) calls' answers' left'
      → Pairwise SameAnswer answers answers'
  run_moved fair w done none done = none
  run_moved fair w (next {held = held} {a = a} x xs) (more c cs) (next {after = left} {calls = calls} {answers = answers} y ys) =
      let (b, z, e) = step_moved held fair w.0 x c in
      let (f, g) = step_one s' (new held) z y in
      more (subst (SameAnswer a) f e)
      (run_moved (fair_after s held fair w.0 x) w.1 xs cs (subst (λ t. Run s' t calls answers left) (sym g) ys))

pub renamed_runs :
    (s : Setting) (calls : List Call) (answers : List Answer) (left : List Row)
    → AllByRecursion LawfulCall calls
    → Run s [] calls answers left
    → SameRenamed s calls answers
renamed_runs s calls answers left w run m s' like calls' cs answers' left' run' =
    run_moved m s s' like (fair_none s) w run cs run'
