-- The seats that differ between two publications: a walk along both finds them, and if they are
-- written in place of those that they differ from, all seats are the new ones.
use Rattle.std.proofs.lemmas.Grind.{common_steps}
use Rattle.std.specs.List.{AllByRecursion, list_any}
use Rattle.std.proofs.Common.{◌≡◌, inl, inr, Bool, true, false, cond, not, ◌&&◌, ◌||◌, eqb, List, [], ◌∷◌, ◌++◌, map, filter, refl, sym, ◌∙◌, ap, ap₂, subst, arith, append_assoc}
use Rattle.std.specs.Prelude.{IsPermutation}
use Rattle.std.proofs.Math.Bool.{or-false}
use Rattle.std.proofs.lemmas.Bool.{or_from}
use Rattle.std.proofs.lemmas.Bool.Decides.{nat_tests}
use Rattle.std.proofs.lemmas.List.{append-nil, map-append}
use Rattle.std.proofs.lemmas.List.Sorted.{IsPermutation-append_right, IsPermutation-cons, IsPermutation-filter_both, IsPermutation-map, IsPermutation-refl, IsPermutation-sym, IsPermutation-trans}
use Rattle.exam_lists.proofs.Chains.{IsChain, chain_from_index}
use Rattle.exam_lists.proofs.Each.{each_weaker, each_filter}
use Rattle.exam_lists.proofs.Filters.{filter_false}
use Rattle.exam_lists.proofs.Permutations.{IsPermutation-filter_or}
use Rattle.exam_lists.proofs.Tests.{any_map}
use Rattle.sqlite_trees.proofs.ListLemmas.{IsPermutation-filter, filter-map}
use Rattle.exam_model.specs.Pairs.{Pair, ComesBefore}
use Rattle.exam_publish.specs.declared.seat_row.SeatRow.{SeatRow}
use Rattle.exam_publish.specs.Changed.{same_row}
use Rattle.exam_publish.specs.Rows.{RowBefore, RowsInOrder, is_pair_before, row_pair}
use Rattle.exam_publish.proofs.ChangedLemmas.{before_from_test}
use Rattle.office_tables.specs.declared.tables.seat.SeatRow as tables
use Rattle.office_records.specs.Publications.{stored_seat}
use Rattle.office_records.specs.SeatsStored.{has_same, rows_beside, seats_without}
use Rattle.office_records.proofs.OrderLemmas.{before_then}

-- ---- the order of rows

-- what is after a row is after each row that isn't after that row
not_after : (p q r : Pair) → is_pair_before q p ≡ false → ComesBefore q r → ComesBefore p r
not_after p q r h k = grind (arith, nat_tests, h, k)

apart : (a b : SeatRow) → RowBefore a b → same_row a b ≡ false
apart a b h = elim h as (λ _. same_row a b ≡ false)
    [ inl less ↦ grind (arith, nat_tests) | inr same ↦ grind (arith, nat_tests) ]

apart_turned : (a b : SeatRow) → RowBefore a b → same_row b a ≡ false
apart_turned a b h = elim h as (λ _. same_row b a ≡ false)
    [ inl less ↦ grind (arith, nat_tests) | inr same ↦ grind (arith, nat_tests) ]

-- all rows after one are after an earlier one
all_after : (a b : SeatRow) (rows : List SeatRow) → RowBefore a b
    → AllByRecursion (RowBefore b) rows → AllByRecursion (RowBefore a) (b ∷ rows)
all_after a b rows h k = grind (arith, common_steps, each_weaker, before_then)

-- and after one of the same pair
all_later : (a b : SeatRow) (rows : List SeatRow) → is_pair_before (row_pair b) (row_pair a) ≡ false
    → AllByRecursion (RowBefore b) rows → AllByRecursion (RowBefore a) rows
all_later a b rows h k =
    each_weaker (RowBefore b) (RowBefore a)
    (λ x l. not_after (row_pair a) (row_pair b) (row_pair x) h l) rows k

-- ---- equal rows

equal_row : (a b : SeatRow) → same_row a b ≡ true → a ≡ b
equal_row a b h = grind (arith, common_steps)

same_turned : (a b : SeatRow) → same_row a b ≡ same_row b a
same_turned a b = grind (arith, common_steps)

-- ---- rows beside others

-- no row after it agrees with a row
has_none : (row : SeatRow) (rows : List SeatRow) → AllByRecursion (RowBefore row) rows
    → has_same rows row ≡ false
has_none row [] a = refl
has_none row (r ∷ rs) a =
    or_from (same_row r row) (has_same rs row) (apart_turned row r a.0) (has_none row rs a.1)

-- a row before all of them is none of them
beside_less : (q : SeatRow) (qs rows : List SeatRow) → AllByRecursion (RowBefore q) rows
    → rows_beside (q ∷ qs) rows ≡ rows_beside qs rows
beside_less q qs [] a = refl
beside_less q qs (r ∷ rs) a =
    ap₂ (λ (b : Bool) (l : List SeatRow). cond (not (b || has_same qs r)) (r ∷ l) l) (apart q r a.0)
    (beside_less q qs rs a.1)

beside_none : (rows : List SeatRow) → rows_beside [] rows ≡ rows
beside_none [] = refl
beside_none (r ∷ rs) = ap (λ l. r ∷ l) (beside_none rs)

-- ---- the walk

-- the rows picked so far, and those that are still to be picked
pub record IsPicked (rows others left right : List SeatRow) (stored : List tables.SeatRow)
    : Type 0 where
  pub picked : stored ++ map stored_seat (rows_beside right left)
      ≡ map stored_seat (rows_beside others rows)
  pub left_order : IsChain RowBefore left
  pub right_order : IsChain RowBefore right

pub start : (rows others : List SeatRow) (stored : List tables.SeatRow) → stored ≡ []
    → RowsInOrder rows → RowsInOrder others → IsPicked rows others rows others stored
start rows others stored none up up' = grind (arith, common_steps, chain_from_index)

-- the next row of the others comes before all that are left
pub passed : {rows others left right : List SeatRow} {stored : List tables.SeatRow}
    (r q : SeatRow) (rs qs : List SeatRow) → IsPicked rows others left right stored
    → left ≡ r ∷ rs → right ≡ q ∷ qs → is_pair_before (row_pair q) (row_pair r) ≡ true
    → IsPicked rows others left qs stored
passed {rows} {others} {left} {right} {stored} r q rs qs was l m lt =
    grind (arith, common_steps, all_after, before_from_test, beside_less)

-- the next row is picked, unless it is also the next of the others
pub taken : {rows others left right : List SeatRow} {stored : List tables.SeatRow}
    (r q : SeatRow) (rs qs : List SeatRow) (more : List tables.SeatRow)
    → IsPicked rows others left right stored
    → left ≡ r ∷ rs → right ≡ q ∷ qs → is_pair_before (row_pair q) (row_pair r) ≡ false
    → (b : Bool) → b ≡ same_row r q → more ≡ stored ++ cond b [] (stored_seat r ∷ [])
    → IsPicked rows others rs right more
taken {rows} {others} {left} {right} {stored} r q rs qs more was l m before b is pushed =
    grind (arith, common_steps, append_assoc, same_turned, has_none, all_later, or-false)

-- the others are used up
pub rest_picked : {rows others left right : List SeatRow} {stored : List tables.SeatRow}
    (all : List tables.SeatRow) → IsPicked rows others left right stored → right ≡ []
    → all ≡ stored ++ map stored_seat left → all ≡ map stored_seat (rows_beside others rows)
rest_picked {rows} {others} {left} {right} {stored} all was none is =
    is ∙ ap (λ l. stored ++ map stored_seat l) (sym (beside_none left))
    ∙ ap (λ xs. stored ++ map stored_seat (rows_beside xs left)) (sym none) ∙ was.picked

-- all are picked
pub all_picked : {rows others left right : List SeatRow} {stored : List tables.SeatRow}
    → IsPicked rows others left right stored → left ≡ []
    → stored ≡ map stored_seat (rows_beside others rows)
all_picked {rows} {others} {left} {right} {stored} was none =
    sym (append-nil stored)
    ∙ ap (λ xs. stored ++ map stored_seat (rows_beside right xs)) (sym none) ∙ was.picked

-- ---- the seats that go

-- whether one of these rows is of the same student and exam
abbrev has_pair : List SeatRow → SeatRow → Bool
has_pair gone row =
    list_any (λ (it : SeatRow). eqb row.student it.student && eqb row.exam it.exam) gone

abbrev kept : List SeatRow → List SeatRow → List SeatRow
kept gone rows = filter (λ row. not (has_pair gone row)) rows

other_pair : (a b : SeatRow) → RowBefore a b
    → (eqb a.student b.student && eqb a.exam b.exam) ≡ false
other_pair a b h = elim h as (λ _. (eqb a.student b.student && eqb a.exam b.exam) ≡ false)
    [ inl less ↦ grind (arith, nat_tests) | inr same ↦ grind (arith, nat_tests) ]

other_turned : (a b : SeatRow) → RowBefore a b
    → (eqb b.student a.student && eqb b.exam a.exam) ≡ false
other_turned a b h = elim h as (λ _. (eqb b.student a.student && eqb b.exam a.exam) ≡ false)
    [ inl less ↦ grind (arith, nat_tests) | inr same ↦ grind (arith, nat_tests) ]

no_pair : (row : SeatRow) (gone : List SeatRow) → AllByRecursion (RowBefore row) gone
    → has_pair gone row ≡ false
no_pair row [] a = refl
no_pair row (g ∷ gone) a =
    or_from (eqb row.student g.student && eqb row.exam g.exam) (has_pair gone row)
    (other_pair row g a.0) (no_pair row gone a.1)

-- a seat before all of them deletes none
gone_less : (row : SeatRow) (gone rows : List SeatRow) → AllByRecursion (RowBefore row) rows
    → kept (row ∷ gone) rows ≡ kept gone rows
gone_less row gone [] a = refl
gone_less row gone (r ∷ rs) a =
    ap₂ (λ (b : Bool) (l : List SeatRow). cond (not (b || has_pair gone r)) (r ∷ l) l)
    (other_turned row r a.0) (gone_less row gone rs a.1)

-- if the seats that fail a test go, those that pass it are left
left_pass : (p : SeatRow → Bool) (rows : List SeatRow) → IsChain RowBefore rows
    → kept (filter (λ row. not (p row)) rows) rows ≡ filter p rows
left_pass p [] up = refl
left_pass p (row ∷ rows) up =
    grind (arith, common_steps, nat_tests, no_pair, each_filter, gone_less, left_pass p rows up.1)

-- ---- all seats

-- only one of the rows in order is a given one
same_only : (o : SeatRow) (rows : List SeatRow) → IsChain RowBefore rows
    → filter (same_row o) rows ≡ cond (has_same rows o) (o ∷ []) []
same_only o [] up = refl
same_only o (n ∷ ns) up = grind (arith, common_steps, same_turned, equal_row, has_none, same_only o ns up.1)

-- the old rows that are also new are the new ones that are also old
both_have : (old new : List SeatRow) → IsChain RowBefore old → IsChain RowBefore new
    → IsPermutation (filter (has_same new) old) (filter (has_same old) new)
both_have [] new up up' =
    subst (IsPermutation []) (sym (filter_false new)) (IsPermutation-refl [])
both_have (o ∷ os) new up up' =
    IsPermutation-trans _ _ _
    (subst (λ l. IsPermutation (filter (has_same new) (o ∷ os)) (l ++ filter (has_same os) new))
    (sym (same_only o new up')) (here (has_same new o) (both_have os new up.1 up')))
    (IsPermutation-sym _ _ (IsPermutation-filter_or (same_row o) (has_same os) new
    (λ n same. subst (λ r. has_same os r ≡ false) (equal_row o n same) (has_none o os up.0))))
  where
    both : List SeatRow
    both = filter (has_same new) os

    here : (b : Bool) → IsPermutation both (filter (has_same os) new)
        → IsPermutation (cond b (o ∷ both) both) (cond b (o ∷ []) [] ++ filter (has_same os) new)
    here true more = IsPermutation-cons o _ _ more
    here false more = more

-- stored seats that are left
left_of : (gone rows : List SeatRow)
    → seats_without (map stored_seat gone) (map stored_seat rows) ≡ map stored_seat (kept gone rows)
left_of gone rows = grind (arith, common_steps, filter-map, any_map)

-- the seats beside the old ones, and the stored ones without those beside the new ones: all new ones
pub seats_put : (old new : List SeatRow) → RowsInOrder old → RowsInOrder new
    → (stored : List tables.SeatRow) → IsPermutation stored (map stored_seat old)
    → IsPermutation
    (map stored_seat (rows_beside old new)
    ++ seats_without (map stored_seat (rows_beside new old)) stored)
    (map stored_seat new)
seats_put old new up up' stored are =
    IsPermutation-trans _ _ _
    (IsPermutation-append_right (map stored_seat come) _ _
    (IsPermutation-filter (λ (row : tables.SeatRow). not (list_any
    (λ (it : tables.SeatRow). eqb row.student it.student && eqb row.exam it.exam)
    (map stored_seat (rows_beside new old)))) stored (map stored_seat old) are))
    (subst (λ l. IsPermutation l (map stored_seat new))
    (map-append stored_seat come stay
    ∙ ap (λ l. map stored_seat come ++ l) (sym (left_of (rows_beside new old) old
    ∙ ap (map stored_seat) (left_pass (has_same new) old was))))
    (IsPermutation-map stored_seat (come ++ stay) new
    (IsPermutation-trans _ _ _
    (IsPermutation-append_right come _ _ (both_have old new was (chain_from_index RowBefore new up')))
    (IsPermutation-sym _ _ (IsPermutation-filter_both (λ row. not (has_same old row)) (has_same old)
    (λ row. double (has_same old row)) new)))))
  where
    was : IsChain RowBefore old
    was = chain_from_index RowBefore old up

    come : List SeatRow
    come = rows_beside old new

    stay : List SeatRow
    stay = filter (has_same new) old

    double : (b : Bool) → b ≡ not (not b)
    double true = refl
    double false = refl
