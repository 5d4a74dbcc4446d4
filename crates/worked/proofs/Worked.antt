-- One test of an example, computed for the whole table.
use Rattle.std.proofs.Common.{◌≡◌, ◌+◌, Bool, true, false, ◌&&◌, eqb, leb, List, [], ◌∷◌, map, length, refl, ap, subst, arith, eqb-true, leb-true}
use borrow.Author.Tests.{clash}
use Rattle.std.specs.Fmt.{digits}
use Rattle.std.specs.List.{AllByRecursion}
use Rattle.std.proofs.ByRecursion.{All-append}
use Rattle.std.proofs.lemmas.Bool.{and_parts}
use Rattle.columns.specs.Positions.{has, tally}
use Rattle.happens_before.proofs.Columns.{computed}
use Rattle.rules.specs.Acceptance.{refusal, some, lasting, some_below}
use Rattle.rules.specs.Answers.{RaceList}
use Rattle.rules.specs.Fair.{Fair}
use Rattle.rules.specs.Runs.{add, LawfulCall}
use Rattle.rules.specs.declared.race.RaceRow.{RaceRow}
use Rattle.rules.proofs.Fair.{fair_none, fair_tables, fair_length, posted_first, one_task_post}
use Rattle.races.specs.Listing.{gathered, all_races}
use Rattle.races.proofs.Listing.{race_list}
use Rattle.worked.specs.Recordings.{Example, operations, listed_before, precedence, setting, Stands}
use Rattle.worked.specs.Table.{table, RecordingsStand}
use Rattle.worked.proofs.Acceptance.{accepts, accepts_fair, accepts_lawful, refuses_all, refuses_run, refuses_lawful}
use Rattle.worked.proofs.Lines.{right_lines, right_order, before_listed}
use Rattle.worked.proofs.Runs.{run_from}
use Rattle.worked.proofs.Words.{columns_of, columns_right}
use Rattle.worked.proofs.Chains.{nearests_of, nearests_right}
use Rattle.worked.proofs.Files.{right_file, same_rows, reported}

-- ---- Race rows

abbrev same_races : List RaceRow → List RaceRow → Bool
same_races [] [] = true
same_races [] (q ∷ qs) = false
same_races (r ∷ rs) [] = false
same_races (r ∷ rs) (q ∷ qs) =
    (eqb r.earlier q.earlier && (eqb r.later q.later && eqb r.class q.class)) && same_races rs qs

race_from :
    (r q : RaceRow)
    → (eqb r.earlier q.earlier && (eqb r.later q.later && eqb r.class q.class)) ≡ true
    → r ≡ q
race_from r q h =
    let (a, h₁) = and_parts (eqb r.earlier q.earlier) _ h in
    let (b, c) = and_parts (eqb r.later q.later) _ h₁ in
    λ t. record { earlier = eqb-true _ _ a t; later = eqb-true _ _ b t; class = eqb-true _ _ c t }

races_from : (rs qs : List RaceRow) → same_races rs qs ≡ true → rs ≡ qs
races_from [] [] h = refl
races_from [] (q ∷ qs) h = absurd (clash h)
races_from (r ∷ rs) [] h = absurd (clash h)
races_from (r ∷ rs) (q ∷ qs) h =
    let (a, b) = and_parts _ (same_races rs qs) h in
    λ t. race_from r q a t ∷ races_from rs qs b t

-- ---- The test

unfoldable right : Example → Bool
right e =
    let rows = operations e in
    let races = same_races (all_races rows (columns_of e.lines) (nearests_of rows)) e.races in
    leb (length rows) 64
    && (accepts (setting e) [] rows && (refuses_all (setting e) rows e.refused && (right_order e && (races && right_file e))))

stands : (e : Example) → right e ≡ true → Stands e
unfolding right
stands e h =
    let ops = operations e in
    let (few, h₁) = and_parts (leb (length ops) 64) _ h in
    let (taken, h₂) = and_parts (accepts (setting e) [] ops) _ h₁ in
    let (refuse, h₃) = and_parts (refuses_all (setting e) ops e.refused) _ h₂ in
    let (order, h₄) = and_parts (right_order e) _ h₃ in
    let (races, in-file) = and_parts (same_races (all_races ops (columns_of e.lines) (nearests_of ops)) e.races) _ h₄ in
    let fair : Fair (setting e) ops = accepts_fair (setting e) [] ops (fair_none (setting e)) taken in
    let tables = fair_tables (setting e) ops fair in
    let posted = posted_first (setting e).initial ops tables in
    let list : RaceList (precedence e) ops e.races =
    subst (RaceList (precedence e) ops) (races_from _ e.races races)
    (race_list ops (columns_of e.lines) (nearests_of ops) (precedence e) posted
    (columns_right e order posted (leb-true _ _ few))
    (nearests_right ops posted (one_task_post (setting e).initial ops tables))
    (fair_length (setting e) ops fair))
    in
    record {
      lawful =
          All-append LawfulCall (map add ops) (map (λ r. add r.0) e.refused)
          (accepts_lawful (setting e) [] ops taken)
          (refuses_lawful (setting e) ops e.refused refuse);
      run =
          run_from e order posted _ _ (refuses_run (setting e) ops e.refused refuse)
          [] 0 e.lines refl refl
          (λ k. ap (listed_before e) (let z : k ≡ 0 + k = omega arith in z)) taken;
      before = before_listed e order posted;
      races = list;
      report = reported e fair in-file list;
    }

abbrev all_right : List Example → Bool
all_right [] = true
all_right (e ∷ es) = right e && all_right es

all_stand : (es : List Example) → all_right es ≡ true → AllByRecursion Stands es
all_stand [] h = tt
all_stand (e ∷ es) h = let (a, b) = and_parts (right e) (all_right es) h in (stands e a, all_stand es b)

-- ---- The table

table_right : all_right table ≡ true
unfolding right right_lines accepts refuses_all refusal right_file same_rows columns_of nearests_of computed some lasting some_below tally has gathered table
table_right = refl

pub recordings_stand : RecordingsStand
unfolding digits table
recordings_stand =
    let examples = all_stand table table_right in
    record {
      examples = examples;
      delays = record { equal = refl; longer = refl; delayed_first = refl; undelayed_first = λ m. refl };
      text = examples.0.report;
    }
