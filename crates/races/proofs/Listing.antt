-- What is gathered from the tests is the race list.
use Rattle.std.proofs.Common.{◌≡◌, ℕ, ◌+◌, ◌<◌, ◌≤◌, ◌*◌, min, Bool, true, false, not, ◌&&◌, eqb, List, [], ◌∷◌, ◌++◌, length, take, drop, set, Ok, sym, refl, ap, ◌∙◌, subst, ap₂, inl, inr, arith}
use Rattle.std.proofs.lemmas.List.{append_assoc, get_or-take, length-append, length_push, length-take-le, take_at, drop_at}
use Rattle.std.proofs.lemmas.Slice.{drop-append-drop}
use Rattle.std.proofs.lemmas.Bool.{and_left, and_right, or_parts, or_from, cond-true, cond-false}
use Rattle.recording.specs.Codes.{read, write}
use Rattle.recording.specs.Rows.{blank}
use Rattle.recording.specs.declared.row.Row.{Row}
use Rattle.columns.specs.declared.column.Column.{Column}
use Rattle.columns.specs.Positions.{has, Holds}
use Rattle.columns.specs.Sweep.{column_at}
use Rattle.happens_before.specs.Trace.{row}
use Rattle.happens_before.specs.Order.{Precedence}
use Rattle.happens_before.specs.Race.{Race, Class}
use Rattle.happens_before.specs.Theorems.{PostedFirst}
use Rattle.rules.specs.Answers.{In, here, Rising, RaceList}
use Rattle.rules.specs.Columns.{Right}
use Rattle.rules.specs.Numbers.{race_number, Passes}
use Rattle.rules.specs.declared.race.RaceRow.{RaceRow}
use Rattle.races.specs.declared.nearest.NearestPosts.{NearestPosts}
use Rattle.races.specs.Chains.{NearestRight}
use Rattle.races.specs.Classes.{accesses, conflicting, racing, class_at}
use Rattle.races.specs.Listing.{gathered, race_row, race_of, races_of, races_below, all_races, Kept, Listed}
use Rattle.races.proofs.Classes.{racing_is, class_is}
use Rattle.races.proofs.Gathered.{in_cond, length_cond, gathered_few, rising_cond, put_next, gathered_more, gathered_with, gathered_without, gathered_longer, gathered_nothing, gathered_from, gathered_has, gathered_rising}

-- what is no access conflicts with nothing
no_conflict : (a b : Row) → accesses b ≡ false → conflicting a b ≡ false
no_conflict a b e =
    let (w, _) = or_parts (eqb b.code write) _ e in
    and_right (eqb a.item b.item) _
    (or_from (eqb a.code write && accesses b) _ (and_right (eqb a.code write) _ e) (and_right (eqb a.code read) _ w))

pub nothing_put : (races places : List RaceRow) → length races ≡ 0 → places ≡ races ++ drop (length races) places
nothing_put [] places e = refl
nothing_put (r ∷ races) places e = absurd (omega arith)

module _ (rows : List Row) (columns : List Column) (nearests : List NearestPosts) where
  -- ---- The races of one later position

  module _ (j : ℕ) where
    pub race_here : (i : ℕ) → racing rows columns i j ≡ true → race_of rows columns nearests j i ≡ race_row rows columns nearests j i ∷ []
    race_here i e = cond-true _ _ _ e

    pub race_none : (i : ℕ) → racing rows columns i j ≡ false → race_of rows columns nearests j i ≡ []
    race_none i e = cond-false _ _ _ e

    -- what is no access has no race
    pub races_none : accesses (row rows j) ≡ false → races_of rows columns nearests j ≡ []
    races_none e =
        gathered_nothing (race_of rows columns nearests j) j
        (λ i. race_none i (and_left _ _ (no_conflict (row rows i) (row rows j) e)))

    race_from :
        (i : ℕ) (r : RaceRow)
        → In r (race_of rows columns nearests j i)
        → (racing rows columns i j ≡ true) × (r ≡ race_row rows columns nearests j i)
    race_from i r = in_cond (racing rows columns i j) r (race_row rows columns nearests j i)

    race_rising : (i : ℕ) → Rising (race_of rows columns nearests j i)
    race_rising i = rising_cond (racing rows columns i j) (race_row rows columns nearests j i)

    races_from :
        (r : RaceRow)
        → In r (races_of rows columns nearests j)
        → (i : ℕ) × (i < j) × (racing rows columns i j ≡ true) × (r ≡ race_row rows columns nearests j i)
    races_from r h =
        let (i, l, k) = gathered_from (race_of rows columns nearests j) r j h in
        let (e, is) = race_from i r k in
        (i, l, e, is)

    races_rising : Rising (races_of rows columns nearests j)
    races_rising =
        gathered_rising (race_of rows columns nearests j) race_rising
        (λ k m q r l a b.
        let e = ap (λ (x : RaceRow). x.earlier) (race_from k q a).1 in
        let f = ap (λ (x : RaceRow). x.earlier) (race_from m r b).1 in
        let s = ap (λ (x : RaceRow). x.later) (race_from k q a).1 in
        let t = ap (λ (x : RaceRow). x.later) (race_from m r b).1 in
        inr (s ∙ sym t, omega arith))
        j

  -- ---- The races of the first n positions

  pub below_from :
      (n : ℕ) (r : RaceRow)
      → In r (races_below rows columns nearests n)
      → (i j : ℕ) × (i < j) × (j < n) × (racing rows columns i j ≡ true) × (r ≡ race_row rows columns nearests j i)
  below_from n r h =
      let (j, u, k) = gathered_from (races_of rows columns nearests) r n h in
      let (i, l, e, is) = races_from j r k in
      (i, j, l, u, e, is)

  below_has :
      (n i j : ℕ)
      → i < j
      → j < n
      → racing rows columns i j ≡ true
      → In (race_row rows columns nearests j i) (races_below rows columns nearests n)
  below_has n i j l u e =
      gathered_has (races_of rows columns nearests) _ n j u
      (gathered_has (race_of rows columns nearests j) _ j i l
      (subst (In (race_row rows columns nearests j i)) (sym (race_here j i e)) here))

  below_rising : (n : ℕ) → Rising (races_below rows columns nearests n)
  below_rising n =
      gathered_rising (races_of rows columns nearests) races_rising
      (λ k m q r l a b.
      let (_, _, _, is) = races_from k q a in
      let (_, _, _, is') = races_from m r b in
      let s = ap (λ (x : RaceRow). x.later) is in
      let t = ap (λ (x : RaceRow). x.later) is' in
      inl (omega arith))
      n

  pub races_few : (j : ℕ) → length (races_of rows columns nearests j) ≤ j
  races_few j =
      let h = gathered_few (race_of rows columns nearests j) 1 j (λ i l. length_cond (racing rows columns i j) _) in
      omega arith

  pub all_few : length (all_races rows columns nearests) ≤ 512 * 512
  all_few =
      let n = min (length rows) 512 in
      let h = gathered_few (races_of rows columns nearests) 512 n (λ j l. let few = races_few j in omega arith) in
      omega arith

  -- each makes a race record
  pub races_pass : (r : RaceRow) → In r (all_races rows columns nearests) → Passes r
  races_pass r h =
      let (i, j, l, u, _, is) = below_from (min (length rows) 512) r h in
      subst Passes (sym is) (l, omega arith, (class_at rows columns nearests i j, refl))

  pub race_list :
      (D : Precedence)
      → PostedFirst rows
      → Right D rows columns
      → NearestRight rows nearests
      → length rows ≤ 512
      → RaceList D rows (all_races rows columns nearests)
  race_list D posted right near small =
      record {
        rising = below_rising (min (length rows) 512);
        races =
            λ r h.
            let (i, j, l, u, e, is) = below_from (min (length rows) 512) r h in
            let v : j < length rows = omega arith in
            subst (λ (x : RaceRow). Race D rows x.earlier x.later × Class D rows x.earlier x.later x.class) (sym is) (
              (racing_is D rows posted columns right i j l v).0 e,
              class_is D rows columns nearests posted right near i j (omega arith) v,
            );
        all =
            λ i j h.
            let l : i < j = h.0 in
            let u : j < length rows = h.1 in (
              race_number (class_at rows columns nearests i j),
              below_has (min (length rows) 512) i j l (omega arith) ((racing_is D rows posted columns right i j l u).1 h),
            );
      }

  -- ---- The places as they are written

  -- the test on the column of j
  pub tested :
      (column : Column) (i j : ℕ) (b : Bool)
      → i < j
      → Holds column (has (column_at columns j))
      → b ≡ (conflicting (row (take j rows) i) (row rows j) && not (has column i))
      → b ≡ racing rows columns i j
  tested column i j b l holds e =
      e ∙ ap₂ (λ r h. conflicting r (row rows j) && not h) (get_or-take j rows i blank l) (holds i)

  module _ (i j : ℕ) (e : racing rows columns i j ≡ true) where
    pub more_here : gathered (race_of rows columns nearests j) (i + 1) ≡ gathered (race_of rows columns nearests j) i ++ race_row rows columns nearests j i ∷ []
    more_here = gathered_with (race_of rows columns nearests j) i _ (race_here j i e)

    pub count_here :
        length (gathered (race_of rows columns nearests j) (i + 1)) ≡ length (gathered (race_of rows columns nearests j) i) + 1
    count_here = ap length more_here ∙ length_push (gathered (race_of rows columns nearests j) i) _

    pub room_here : i < j → length (gathered (race_of rows columns nearests j) i) < length (races_of rows columns nearests j)
    room_here l =
        let h = count_here in
        let g = gathered_longer (race_of rows columns nearests j) (i + 1) j (omega arith) in
        omega arith

    pub written_here :
        (old : List RaceRow) (from n : ℕ)
        → n ≡ from + length (gathered (race_of rows columns nearests j) i)
        → n < length old
        → set ((take from old ++ gathered (race_of rows columns nearests j) i) ++ drop n old) n (race_row rows columns nearests j i)
        ≡ (take from old ++ gathered (race_of rows columns nearests j) (i + 1)) ++ drop (n + 1) old
    written_here old from n is l =
        let g = gathered (race_of rows columns nearests j) i in
        let v = race_row rows columns nearests j i in
        let f : from ≤ length old = omega arith in
        let h = length-append (take from old) g in
        let k = length-take-le from old f in
        put_next (take from old ++ g) old n v (omega arith) l
        ∙ ap (λ xs. xs ++ drop (n + 1) old)
        (append_assoc (take from old) g (v ∷ []) ∙ ap (λ xs. take from old ++ xs) (sym more_here))

  pub more_none :
      (i j : ℕ)
      → racing rows columns i j ≡ false
      → gathered (race_of rows columns nearests j) (i + 1) ≡ gathered (race_of rows columns nearests j) i
  more_none i j e = gathered_without (race_of rows columns nearests j) i (race_none j i e)

  pub below_more : (j : ℕ) → races_below rows columns nearests (j + 1) ≡ races_below rows columns nearests j ++ races_of rows columns nearests j
  below_more j = gathered_more (races_of rows columns nearests) j

  pub count_more :
      (j : ℕ)
      → length (races_below rows columns nearests (j + 1))
      ≡ length (races_below rows columns nearests j) + length (races_of rows columns nearests j)
  count_more j = ap length (below_more j) ∙ length-append (races_below rows columns nearests j) _

  pub room_below :
      (j : ℕ)
      → j < min (length rows) 512
      → length (races_below rows columns nearests j) + length (races_of rows columns nearests j) ≤ length (all_races rows columns nearests)
  room_below j l =
      let e = count_more j in
      let h = gathered_longer (races_of rows columns nearests) (j + 1) (min (length rows) 512) (omega arith) in
      omega arith

  pub written_more :
      (old cur new : List RaceRow) (n r j : ℕ)
      → n ≡ length (races_below rows columns nearests j)
      → cur ≡ races_below rows columns nearests j ++ drop n old
      → r ≡ n + length (races_of rows columns nearests j)
      → new ≡ (take n cur ++ races_of rows columns nearests j) ++ drop r cur
      → (r ≡ length (races_below rows columns nearests (j + 1))) × (new ≡ races_below rows columns nearests (j + 1) ++ drop r old)
  written_more old cur new n r j is cur-is r-is New-is =
      let below = races_below rows columns nearests j in
      let e = count_more j in
      let front : take n cur ≡ below = ap (take n) cur-is ∙ take_at below (drop n old) n (sym is) in
      let rest : drop r cur ≡ drop r old =
      ap (drop r) cur-is ∙ drop-append-drop n old below r (omega arith) (sym is) in (
        omega arith,
        New-is
            ∙ (ap₂ (λ xs ys. (xs ++ races_of rows columns nearests j) ++ ys) front rest
            ∙ ap (λ xs. xs ++ drop r old) (sym (below_more j))),
      )

  pub kept :
      (old new : List RaceRow) (n : ℕ)
      → n ≡ length (all_races rows columns nearests)
      → n ≤ length old
      → new ≡ all_races rows columns nearests ++ drop (length (all_races rows columns nearests)) old
      → Kept old new (Ok n)
  kept old new n is l New-is =
      let all = all_races rows columns nearests in (
        l,
        ap (drop n) New-is ∙ (drop_at all (drop (length all) old) n (sym is) ∙ ap (λ k. drop k old) (sym is)),
        λ r h. races_pass r (subst (In r) (ap (take n) New-is ∙ take_at all (drop (length all) old) n (sym is)) h),
      )

  pub listed :
      (old new : List RaceRow) (n : ℕ)
      → n ≡ length (all_races rows columns nearests)
      → new ≡ all_races rows columns nearests ++ drop (length (all_races rows columns nearests)) old
      → Listed (all_races rows columns nearests) old new (Ok n)
  listed old new n is New-is = (is, New-is ∙ ap (λ k. all_races rows columns nearests ++ drop k old) (sym is))
