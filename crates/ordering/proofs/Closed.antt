-- The descending pass over a column of what stands directly before gives what is before.
use Rattle.std.proofs.Common.{◌≡◌, ℕ, zero, suc, ◌<◌, ◌≤◌, Bool, true, false, not, ◌&&◌, ◌||◌, eqb, ◌↔◌, List, [], ◌∷◌, ◌++◌, length, take, sym, refl, ap, ◌∙◌, subst, arith, length-append}
use Rattle.std.proofs.lemmas.Bool.Decides.{same_from_decides}
use Rattle.std.proofs.lemmas.List.{take_at}
use Rattle.recording.specs.Codes.{has_task}
use Rattle.recording.specs.declared.row.Row.{Row}
use Rattle.columns.specs.declared.column.Column.{Column}
use Rattle.columns.specs.Positions.{has}
use Rattle.columns.specs.Sweep.{column_at, joined, swept}
use Rattle.happens_before.specs.Trace.{row, thread}
use Rattle.happens_before.specs.Order.{Precedence, Before}
use Rattle.happens_before.specs.Theorems.{PostedFirst, AllInRange}
use Rattle.happens_before.proofs.Alike.{alike_refl, base_alike}
use Rattle.happens_before.proofs.Columns.{hb, hb_rising}
use Rattle.happens_before.proofs.Extended.{extended, posted_first_before}
use Rattle.happens_before.proofs.Least.{before_hb}
use Rattle.happens_before.proofs.Pass.{passed, passed_start, passed_step, passed_end}
use Rattle.happens_before.proofs.Rules.{base, base_sound, base_full}
use Rattle.rules.specs.Fair.{FairTables}
use Rattle.rules.proofs.Fair.{tables_cut, posted_first, all_in_range}
use Rattle.index.specs.Indexed.{member_at}
use Rattle.index.proofs.Kept.{row_earlier, row_newest}
use Rattle.rules.specs.Columns.{pairs_in, Right}
use Rattle.ordering.specs.Directly.{Directly}
use Rattle.ordering.proofs.Bridge.{directly_sound, directly_full}
use Rattle.ordering.proofs.Members.{member_sound}

-- ---- the pass

module _
    (D : Precedence) (held : List Row) (o : Row) (columns : List Column) (own : ℕ → Bool)
    (filled : (i k : ℕ) → k < length held → has (column_at columns k) i ≡ hb D (held ++ o ∷ []) i k)
    (owns : (i : ℕ) → i < length held → own i ≡ eqb (row held i).thread o.thread)
  where
    abbrev T : List Row
    T = held ++ o ∷ []

    owns_so : (i : ℕ) → i < length held → own i ≡ eqb (thread T i) (thread T (length held))
    owns_so i l =
        owns i l
        ∙ sym (λ t. eqb (row_earlier held o i l t).thread (row_newest held o (length held) refl t).thread)

    inner :
        (k i : ℕ) → k < length held
        → (has (column_at columns k) i && (own k || not (own i)))
        ≡ (hb D T i k && (eqb (thread T k) (thread T (length held)) || not (eqb (thread T i) (thread T (length held)))))
    inner k i l = ap (λ b. b && (own k || not (own i))) (filled i k l) ∙ go (hb D T i k) refl
      where
        go :
            (b : Bool) → hb D T i k ≡ b
            → (b && (own k || not (own i)))
            ≡ (b && (eqb (thread T k) (thread T (length held)) || not (eqb (thread T i) (thread T (length held)))))
        go true e =
            let r = (hb_rising D T i k e).0 in
            λ t. owns_so k l t || not (owns_so i (omega arith) t)
        go false e = refl

    swept_passed :
        (k : ℕ) → k ≤ length held → (p : ℕ → Bool) → ((i : ℕ) → p i ≡ passed D T (length held) k i)
        → (i : ℕ) → swept columns own k p i ≡ passed D T (length held) 0 i
    swept_passed zero l p e i = e i
    swept_passed (suc k) l p e i =
        swept_passed k (omega arith) (joined columns own k p)
        (λ j.
        (λ t. e j t || (e k t && inner k j l t)) ∙ sym (passed_step D T (length held) k j l))
        i

    pub swept_is :
        (p : ℕ → Bool) → ((i : ℕ) → p i ≡ base D T (hb D T) i (length held)) → (i : ℕ)
        → swept columns own (length held) p i ≡ hb D T i (length held)
    swept_is p e i =
        let n = length-append held (o ∷ []) in
        swept_passed (length held) (omega arith) p (λ j. e j ∙ sym (passed_start D T (length held) j)) i
        ∙ passed_end D T (length held) (omega arith) i

-- ---- what stands directly before

module _
    (D : Precedence) (held : List Row) (o : Row) (columns : List Column) (initial : ℕ → Bool)
    (fair : FairTables initial (held ++ o ∷ []))
    (right : Right D held columns)
  where
    first : PostedFirst (held ++ o ∷ [])
    first = posted_first initial (held ++ o ∷ []) fair

    pub filled_so : (i k : ℕ) → k < length held → has (column_at columns k) i ≡ hb D (held ++ o ∷ []) i k
    filled_so i k l =
        let b = before_hb D held (posted_first_before held (o ∷ []) first) i k in
        same_from_decides _ _ (right i k l) (b.1, b.0)
        ∙ sym (extended held (o ∷ []) D i k l)

    pub directly_is :
        (column : ℕ → Bool)
        → ((i : ℕ) → (column i ≡ true) ↔ ((i < length held) × Directly D (pairs_in columns) held o i))
        → (i : ℕ) → column i ≡ base D (held ++ o ∷ []) (hb D (held ++ o ∷ [])) i (length held)
    directly_is column e i =
        let n = length-append held (o ∷ []) in
        same_from_decides (column i) (base D (held ++ o ∷ []) (pairs_in columns) i (length held)) (e i) (
          λ h.
              let r = base_sound D (held ++ o ∷ []) (pairs_in columns) i (length held) h in
              (r.0, directly_full D (pairs_in columns) held o i r.0 r.1),
          λ r. base_full D (held ++ o ∷ []) (pairs_in columns) i (length held) r.0 (directly_sound D (pairs_in columns) held o i r.0 r.1),
        )
        ∙ base_alike (length (held ++ o ∷ [])) (held ++ o ∷ []) (held ++ o ∷ []) (alike_refl _ _) D (pairs_in columns)
        (hb D (held ++ o ∷ [])) i (length held) (omega arith) (λ k b l. filled_so k b l)

    pub before_it : (i : ℕ) (answer : Bool) → answer ≡ hb D (held ++ o ∷ []) i (length held) → (answer ≡ true) ↔ Before D (held ++ o ∷ []) i (length held)
    before_it i answer e =
        let b = before_hb D (held ++ o ∷ []) first i (length held) in
        (λ h. b.1 (sym e ∙ h), λ h. e ∙ b.0 h)

    held_fair : FairTables initial held
    held_fair = subst (FairTables initial) (take_at held (o ∷ []) (length held) refl) (tables_cut initial (length held) (held ++ o ∷ []) fair)

    pub held_ranged : AllInRange held
    held_ranged = all_in_range initial held held_fair

    pub member_small : (p : ℕ) → member_at held p o ≡ true → p < 512
    member_small p h =
        let n = length-append held (o ∷ []) in
        let at : member_at held p o ≡ member_at (take (length held) (held ++ o ∷ [])) p (row (held ++ o ∷ []) (length held)) =
        (λ t. member_at (sym (take_at held (o ∷ []) (length held) refl) t) p (sym (row_newest held o (length held) refl) t))
        in
        let b = member_sound (held ++ o ∷ []) (length held) p (omega arith) (sym at ∙ h) in
        let l = b.1 in
        subst (λ q. q < 512) b.2.2
        ((all_in_range initial (held ++ o ∷ []) fair b.0 (omega arith)).2 (ap has_task b.2.0))
