-- Changed placements are written in place of those that they differ from: all placements are then
-- the new ones.
use Rattle.std.proofs.Common.{◌≡◌, ℕ, ◌+◌, ◌<◌, ◌≤◌, zero, suc, ◌&&◌, Bool, true, false, cond, not, eqb, List, ◌∷◌, ◌++◌, [], filter, length, drop, get_or, Option, Some, None, option_map, refl, sym, ◌∙◌, ap, ap₂, subst, arith, eqb-true, append_assoc, add-one}
use Rattle.std.specs.Prelude.{◌||◌, IsPermutation, slice_get}
use Rattle.std.proofs.Math.Seq.{drop-nil}
use Rattle.std.proofs.lemmas.Bool.Decides.{nat_tests}
use Rattle.std.proofs.lemmas.Bool.{and_parts, or_from, or_parts}
use Rattle.std.proofs.lemmas.List.Sorted.{IsPermutation-append_right, IsPermutation-cons, IsPermutation-middle, IsPermutation-refl, IsPermutation-trans, length_permutation}
use Rattle.exam_lists.proofs.Booleans.{eqb_swap}
use Rattle.sqlite_trees.proofs.ListLemmas.{IsPermutation-filter}
use Rattle.exam_model.specs.Enrolments.{has_number}
use Rattle.exam_model.specs.Timetable.{Placing, place_of}
use Rattle.office_tables.specs.declared.tables.placed.PlacedRow.{PlacedRow}
use Rattle.office_records.specs.Publications.{placed_from, placed_row}
use Rattle.office_store.specs.ChangedPlacements.{changed_rows, exams_of, is_same_row, is_there, placements_without}

-- ---- row by row

-- the next placement has changed, or is at the same index as before
next_row : (rows others : List PlacedRow) (i : ℕ) (row d : PlacedRow) → i < length rows
    → row ≡ get_or rows i d
    → changed_rows (drop i rows) (drop i others)
    ≡ cond (is_there (slice_get others i) row) [] (row ∷ [])
    ++ changed_rows (drop (suc i) rows) (drop (suc i) others)
next_row [] others i row d within is = absurd (omega (arith, within))
next_row (r ∷ rows) [] zero row d within is =
    ap (λ x. x ∷ changed_rows rows []) (sym is)
next_row (r ∷ rows) (o ∷ others) zero row d within is =
    go (is_same_row r o) ∙ ap (λ x. cond (is_same_row x o) [] (x ∷ []) ++ changed_rows rows others)
    (sym is)
  where
    go : (b : Bool) → cond b (changed_rows rows others) (r ∷ changed_rows rows others)
        ≡ cond b [] (r ∷ []) ++ changed_rows rows others
    go true = refl
    go false = refl
next_row (r ∷ rows) [] (suc i) row d within is =
    subst (λ l. changed_rows (drop i rows) l ≡ row ∷ changed_rows (drop (suc i) rows) [])
    (drop-nil i) (next_row rows [] i row d (omega (arith, within)) is)
next_row (r ∷ rows) (o ∷ others) (suc i) row d within is =
    next_row rows others i row d (omega (arith, within)) is

-- the list so far, with the next placement if it has changed
pub next_changed : (rows others changed : List PlacedRow) (i : ℕ) (d : PlacedRow)
    → i < length rows
    → changed ++ changed_rows (drop i rows) (drop i others) ≡ changed_rows rows others
    → (b : Bool) → is_there (slice_get others i) (get_or rows i d) ≡ b
    → (changed ++ cond b [] (get_or rows i d ∷ []))
    ++ changed_rows (drop (i + 1) rows) (drop (i + 1) others)
    ≡ changed_rows rows others
next_changed rows others changed i d within so_far b is =
    append_assoc changed (cond b [] (get_or rows i d ∷ [])) _
    ∙ ap (λ l. changed ++ l)
    (ap (λ n. cond b [] (get_or rows i d ∷ []) ++ changed_rows (drop n rows) (drop n others))
    (add-one i)
    ∙ ap (λ b. cond b [] (get_or rows i d ∷ [])
    ++ changed_rows (drop (suc i) rows) (drop (suc i) others)) (sym is)
    ∙ sym (next_row rows others i (get_or rows i d) d within refl))
    ∙ so_far

-- ---- exams

same_turned : (a b : PlacedRow) → is_same_row a b ≡ is_same_row b a
same_turned a b =
    ap₂ (λ p q. p && q) (eqb_swap a.exam b.exam)
    (ap₂ (λ p q. p && q) (eqb_swap a.period b.period) (eqb_swap a.room b.room))

equal_row : (a b : PlacedRow) → is_same_row a b ≡ true → a ≡ b
equal_row a b h =
    let first = and_parts (eqb a.exam b.exam) _ h in
    let rest = and_parts (eqb a.period b.period) (eqb a.room b.room) first.1 in
    λ i. record {
      exam = eqb-true a.exam b.exam first.0 i;
      period = eqb-true a.period b.period rest.0 i;
      room = eqb-true a.room b.room rest.1 i;
    }

-- no exam has two placements
abbrev pub AreOwnExams : List PlacedRow → Type 0
AreOwnExams [] = Unit {0}
AreOwnExams (row ∷ rows) = (has_number (exams_of rows) row.exam ≡ false) × AreOwnExams rows

-- the exams of changed placements are some of the exams
no_more : (rows others : List PlacedRow) (n : ℕ) → has_number (exams_of rows) n ≡ false
    → has_number (exams_of (changed_rows rows others)) n ≡ false
no_more [] others n none = refl
no_more (row ∷ rows) [] n none =
    let parts = or_parts (eqb row.exam n) (has_number (exams_of rows) n) none in
    or_from (eqb row.exam n) (has_number (exams_of (changed_rows rows [])) n) parts.0
    (no_more rows [] n parts.1)
no_more (row ∷ rows) (other ∷ others) n none =
    let parts = or_parts (eqb row.exam n) (has_number (exams_of rows) n) none in
    go (is_same_row row other) parts.0 (no_more rows others n parts.1)
  where
    go : (b : Bool) → eqb row.exam n ≡ false
        → has_number (exams_of (changed_rows rows others)) n ≡ false
        → has_number (exams_of (cond b (changed_rows rows others) (row ∷ changed_rows rows others)))
        n ≡ false
    go true first more = more
    go false first more =
        or_from (eqb row.exam n) (has_number (exams_of (changed_rows rows others)) n) first more

-- an exam without a placement deletes none
none_less : (n : ℕ) (gone : List ℕ) (rows : List PlacedRow) → has_number (exams_of rows) n ≡ false
    → placements_without (n ∷ gone) rows ≡ placements_without gone rows
none_less n gone [] none = refl
none_less n gone (row ∷ rows) none =
    ap₂ (λ (b : Bool) rest. cond (not b) (row ∷ rest) rest) here (none_less n gone rows parts.1)
  where
    parts : (eqb row.exam n ≡ false) × (has_number (exams_of rows) n ≡ false)
    parts = or_parts (eqb row.exam n) (has_number (exams_of rows) n) none

    here : (eqb n row.exam || has_number gone row.exam) ≡ has_number gone row.exam
    here = ap (λ b. b || has_number gone row.exam) (eqb_swap n row.exam ∙ parts.0)

-- a placement is deleted if its exam's placement is
gone_first : (row : PlacedRow) (gone : List ℕ) (rows : List PlacedRow)
    → has_number (exams_of rows) row.exam ≡ false
    → placements_without (row.exam ∷ gone) (row ∷ rows) ≡ placements_without gone rows
gone_first row gone rows none =
    ap (λ b. cond (not (b || has_number gone row.exam)) (row ∷ rest) rest) here
    ∙ none_less row.exam gone rows none
  where
    rest : List PlacedRow
    rest = placements_without (row.exam ∷ gone) rows

    here : eqb row.exam row.exam ≡ true
    here = grind (arith, nat_tests)

-- a placement that stays
stays_first : (row : PlacedRow) (gone : List ℕ) (rows : List PlacedRow)
    → has_number gone row.exam ≡ false
    → placements_without gone (row ∷ rows) ≡ row ∷ placements_without gone rows
stays_first row gone rows none =
    ap (λ b. cond (not b) (row ∷ placements_without gone rows) (placements_without gone rows)) none

-- ---- all placements

abbrev pub gone_of : List PlacedRow → List PlacedRow → List ℕ
gone_of rows before = exams_of (changed_rows before rows)

-- the changed placements are inserted, and those that they differ from are deleted
changed_put : (rows before : List PlacedRow) → AreOwnExams before
    → IsPermutation (changed_rows rows before ++ placements_without (gone_of rows before) before)
    rows
changed_put [] [] own = IsPermutation-refl []
changed_put [] (b ∷ before) own =
    subst (λ l. IsPermutation l []) (sym (gone_first b (gone_of [] before) before own.0))
    (changed_put [] before own.1)
changed_put (r ∷ rows) [] own = IsPermutation-cons r _ _ (changed_put rows [] own)
changed_put (r ∷ rows) (b ∷ before) own =
    subst (λ c. IsPermutation (cond (is_same_row r b) come (r ∷ come)
    ++ placements_without (exams_of (cond c go_away (b ∷ go_away))) (b ∷ before)) (r ∷ rows))
    (same_turned r b) (by (is_same_row r b) refl (changed_put rows before own.1))
  where
    come : List PlacedRow
    come = changed_rows rows before

    go_away : List PlacedRow
    go_away = changed_rows before rows

    by : (c : Bool) → is_same_row r b ≡ c
        → IsPermutation (come ++ placements_without (exams_of go_away) before) rows
        → IsPermutation (cond c come (r ∷ come)
        ++ placements_without (exams_of (cond c go_away (b ∷ go_away))) (b ∷ before)) (r ∷ rows)
    by true same more =
        subst (λ l. IsPermutation (come ++ l) (r ∷ rows))
        (sym (stays_first b (exams_of go_away) before (no_more before rows b.exam own.0)))
        (subst (λ x. IsPermutation (come ++ b ∷ placements_without (exams_of go_away) before)
        (x ∷ rows)) (sym (equal_row r b same))
        (IsPermutation-trans _ _ _
        (IsPermutation-middle come b (placements_without (exams_of go_away) before))
        (IsPermutation-cons b _ _ more)))
    by false same more =
        subst (λ l. IsPermutation (r ∷ (come ++ l)) (r ∷ rows))
        (sym (gone_first b (exams_of go_away) before own.0))
        (IsPermutation-cons r _ _ more)

-- the same for stored placements in any order
pub stored_put : (rows before stored : List PlacedRow) → AreOwnExams before
    → IsPermutation stored before
    → IsPermutation (changed_rows rows before ++ placements_without (gone_of rows before) stored)
    rows
stored_put rows before stored own are =
    IsPermutation-trans _ _ _
    (IsPermutation-append_right (changed_rows rows before) _ _
    (IsPermutation-filter (λ (row : PlacedRow). not (has_number (gone_of rows before) row.exam))
    stored before are))
    (changed_put rows before own)

-- ---- the placements of a timetable

-- the placements of one exam
abbrev at : ℕ → List PlacedRow → List PlacedRow
at n rows = filter (λ row. eqb row.exam n) rows

-- each exam has at most one placement
abbrev IsSingle : List PlacedRow → Type 0
IsSingle rows = (n : ℕ) → length (at n rows) ≤ 1

abbrev pub one_or_none : Option PlacedRow → List PlacedRow
one_or_none None = []
one_or_none (Some row) = row ∷ []

none_before : (m k : ℕ) (T : Placing) → m < k → at m (placed_from k T) ≡ []
none_before m k [] less = refl
none_before m k (None ∷ T) less = none_before m (k + 1) T (omega arith)
none_before m k (Some place ∷ T) less =
    let other : eqb k m ≡ false = grind (arith, nat_tests, less) in
    let rest = at m (placed_from (k + 1) T) in
    ap (λ b. cond b (placed_row k place ∷ rest) rest) other ∙ none_before m (k + 1) T (omega arith)

place_rows : (n k e : ℕ) (T : Placing) → k + e ≡ n
    → at n (placed_from k T) ≡ one_or_none (option_map (placed_row n) (place_of T e))
place_rows n k e [] is = refl
place_rows n k zero (None ∷ T) is = none_before n (k + 1) T (omega (arith, is))
place_rows n k zero (Some place ∷ T) is =
    let here : eqb k n ≡ true = grind (arith, nat_tests, is) in
    let same : k ≡ n = omega (arith, is) in
    let rest = at n (placed_from (k + 1) T) in
    ap (λ b. cond b (placed_row k place ∷ rest) rest) here
    ∙ ap₂ (λ m l. placed_row m place ∷ l) same (none_before n (k + 1) T (omega (arith, is)))
place_rows n k (suc e) (None ∷ T) is = place_rows n (k + 1) e T (omega (arith, is))
place_rows n k (suc e) (Some place ∷ T) is =
    let other : eqb k n ≡ false = grind (arith, nat_tests, is) in
    let rest = at n (placed_from (k + 1) T) in
    ap (λ b. cond b (placed_row k place ∷ rest) rest) other
    ∙ place_rows n (k + 1) e T (omega (arith, is))

-- a timetable has at most one placement of an exam
pub rows_at : (e : ℕ) (T : Placing) → filter (λ (row : PlacedRow). eqb row.exam e) (placed_from 0 T)
    ≡ one_or_none (option_map (placed_row e) (place_of T e))
rows_at e T = place_rows e 0 e T (omega arith)

few_or_none : (o : Option PlacedRow) → length (one_or_none o) ≤ 1
few_or_none None = omega arith
few_or_none (Some row) = omega arith

none_at : (n : ℕ) (rows : List PlacedRow) → length (at n rows) ≤ 0
    → has_number (exams_of rows) n ≡ false
none_at n [] few = refl
none_at n (row ∷ rows) few = go (eqb row.exam n) refl few (none_at n rows)
  where
    go : (b : Bool) → eqb row.exam n ≡ b → length (cond b (row ∷ at n rows) (at n rows)) ≤ 0
        → (length (at n rows) ≤ 0 → has_number (exams_of rows) n ≡ false)
        → (eqb row.exam n || has_number (exams_of rows) n) ≡ false
    go true is few more = absurd (omega (arith, few))
    go false is few more = or_from (eqb row.exam n) (has_number (exams_of rows) n) is (more few)

own_of_single : (rows : List PlacedRow) → IsSingle rows → AreOwnExams rows
own_of_single [] one = tt
own_of_single (row ∷ rows) one = (
  none_at row.exam rows (first (eqb row.exam row.exam) (grind (arith, nat_tests)) (one row.exam)),
  own_of_single rows (λ n. fewer n (eqb row.exam n) (one n)),
)
  where
    first : (b : Bool) → b ≡ true
        → length (cond b (row ∷ at row.exam rows) (at row.exam rows)) ≤ 1
        → length (at row.exam rows) ≤ 0
    first true is few = omega (arith, few)
    first false is few = cc

    fewer : (n : ℕ) (b : Bool) → length (cond b (row ∷ at n rows) (at n rows)) ≤ 1
        → length (at n rows) ≤ 1
    fewer n true few = omega (arith, few)
    fewer n false few = few

-- each exam of a timetable's placements is listed once, in any order
pub own_exams : (T : Placing) (before : List PlacedRow) → IsPermutation before (placed_from 0 T)
    → AreOwnExams before
own_exams T before are =
    own_of_single before
    (λ n.
    let same = length_permutation _ _
    (IsPermutation-filter (λ (row : PlacedRow). eqb row.exam n) before (placed_from 0 T) are) in
    let rows = ap length (rows_at n T) in
    let one = few_or_none (option_map (placed_row n) (place_of T n)) in
    omega (arith, same, rows, one))
