-- A walk along two lists of rows in order finds the candidates whose rows differ.
use Rattle.std.proofs.lemmas.Grind.{common_steps}
use Rattle.std.specs.List.{AllByRecursion}
use Rattle.std.proofs.Common.{◌≡◌, ℕ, inl, inr, Bool, true, false, ◌&&◌, ◌||◌, eqb, List, [], ◌∷◌, ◌++◌, refl, ◌∙◌, ap, arith, rules}
use Rattle.std.proofs.lemmas.Bool.Decides.{nat_tests}
use Rattle.std.proofs.lemmas.List.Folds.{list_any-append}
use Rattle.std.proofs.Math.Bool.{or-false, or_assoc}
use Rattle.exam_lists.proofs.Chains.{IsChain, chain_from_index, chain_filter}
use Rattle.exam_lists.proofs.Each.{each_weaker, each_filter}
use Rattle.exam_lists.proofs.Tests.{any_map}
use Rattle.exam_model.specs.Enrolments.{IsAscending, has_number}
use Rattle.exam_model.specs.Pairs.{Pair, ComesBefore}
use Rattle.exam_model.proofs.SameSet.{same_list}
use Rattle.exam_publish.specs.declared.seat_row.SeatRow.{SeatRow}
use Rattle.exam_publish.specs.Rows.{is_pair_before, RowBefore, RowsInOrder, row_pair}
use Rattle.exam_publish.specs.Changed.{rows_of, has_row, same_row, same_rows, is_changed, changed_students}
use Rattle.exam_publish.proofs.ListLemmas.{has_filter, has_ascending, chain_ascending, ascending_from_chain}

-- ---- the order of rows

pub before_from_test : (p q : Pair) → is_pair_before p q ≡ true → ComesBefore p q
before_from_test p q h = grind (arith, nat_tests, h)

before_trans : (p q r : Pair) → ComesBefore p q → ComesBefore q r → ComesBefore p r
before_trans p q r h k = grind (arith, h, k)

-- a row before the first of a list is before the whole list
before_all : (r q : SeatRow) (qs : List SeatRow) → RowBefore r q → AllByRecursion (RowBefore q) qs
    → AllByRecursion (RowBefore r) (q ∷ qs)
before_all r q qs h a =
    (h, each_weaker (RowBefore q) (RowBefore r) (λ x k. before_trans (row_pair r) (row_pair q) (row_pair x) h k) qs a)

not_same : (r q : SeatRow) → RowBefore r q → same_row r q ≡ false
not_same r q h = elim h as (λ _. same_row r q ≡ false)
    [ inl less ↦ grind (arith, nat_tests) | inr same ↦ grind (arith, nat_tests) ]

not_same_turned : (r q : SeatRow) → RowBefore r q → same_row q r ≡ false
not_same_turned r q h = elim h as (λ _. same_row q r ≡ false)
    [ inl less ↦ grind (arith, nat_tests) | inr same ↦ grind (arith, nat_tests) ]

-- ---- one row, or two rows of one pair, removed

first_only : (r : SeatRow) (xs ys : List SeatRow) → AllByRecursion (RowBefore r) ys
    → same_rows (r ∷ xs) ys ≡ false
first_only r xs [] a = refl
first_only r xs (y ∷ ys) a = ap (λ b. b && same_rows xs ys) (not_same r y a.0)

second_only : (r : SeatRow) (xs ys : List SeatRow) → AllByRecursion (RowBefore r) xs
    → same_rows xs (r ∷ ys) ≡ false
second_only r [] ys a = refl
second_only r (x ∷ xs) ys a = ap (λ b. b && same_rows xs ys) (not_same_turned r x a.0)

pub left_step : (r : SeatRow) (rs qs : List SeatRow) → AllByRecursion (RowBefore r) qs → (s : ℕ)
    → (eqb r.student s || is_changed rs qs s) ≡ is_changed (r ∷ rs) qs s
left_step r rs qs above s = grind (arith, common_steps, first_only, each_filter)

pub right_step : (q : SeatRow) (rs qs : List SeatRow) → AllByRecursion (RowBefore q) rs → (s : ℕ)
    → (eqb q.student s || is_changed rs qs s) ≡ is_changed rs (q ∷ qs) s
right_step q rs qs above s = grind (arith, common_steps, second_only, each_filter)

-- ---- only one list is left

pub left_only : (rows : List SeatRow) (s : ℕ) → is_changed rows [] s ≡ has_row rows s
left_only [] s = refl
left_only (r ∷ rs) s = grind (arith, common_steps, left_only rs s)

pub right_only : (rows : List SeatRow) (s : ℕ) → is_changed [] rows s ≡ has_row rows s
right_only [] s = refl
right_only (r ∷ rs) s = grind (arith, common_steps, right_only rs s)

-- ---- the walk

pub record IsCompared (old new left right : List SeatRow) (found : List ℕ) : Type 0 where
  pub members : (s : ℕ) → (has_number found s || is_changed left right s) ≡ is_changed old new s
  pub left_order : IsChain RowBefore left
  pub right_order : IsChain RowBefore right

pub start : (old new : List SeatRow) (found : List ℕ) → found ≡ [] → RowsInOrder old
    → RowsInOrder new → IsCompared old new old new found
start old new found none up up' = grind (arith, common_steps, chain_from_index)

-- one more student
pub has_push : (found : List ℕ) (t s : ℕ)
    → has_number (found ++ t ∷ []) s ≡ (has_number found s || eqb t s)
has_push found t s = list_any-append (λ x. eqb x s) found (t ∷ [])
    ∙ ap (λ b. has_number found s || b) (or-false (eqb t s))

pub step_left : {old new left right : List SeatRow} {found more : List ℕ} (r q : SeatRow)
    (rs qs : List SeatRow)
    → IsCompared old new left right found
    → left ≡ r ∷ rs → right ≡ q ∷ qs → is_pair_before (row_pair r) (row_pair q) ≡ true
    → more ≡ found ++ r.student ∷ []
    → IsCompared old new rs right more
step_left {old} {new} {left} {right} {found} {more} r q rs qs was l m lt is =
    grind (arith, IsChain, before_all, before_from_test, has_push, left_step, or_assoc)

pub step_right : {old new left right : List SeatRow} {found more : List ℕ} (r q : SeatRow)
    (rs qs : List SeatRow)
    → IsCompared old new left right found
    → left ≡ r ∷ rs → right ≡ q ∷ qs → is_pair_before (row_pair q) (row_pair r) ≡ true
    → more ≡ found ++ q.student ∷ []
    → IsCompared old new left qs more
step_right {old} {new} {left} {right} {found} {more} r q rs qs was l m lt is =
    grind (arith, IsChain, before_all, before_from_test, has_push, or_assoc, right_step)

-- one list is used up
pub end_left : {old new left right : List SeatRow} {found : List ℕ} (more : List ℕ)
    → IsCompared old new left right found → right ≡ []
    → ((s : ℕ) → has_number more s ≡ (has_number found s || has_row left s)) → (s : ℕ)
    → has_number more s ≡ is_changed old new s
end_left {old} {new} {left} {right} {found} more was none is s = grind (arith, left_only)

pub end_right : {old new left right : List SeatRow} {found : List ℕ} (more : List ℕ)
    → IsCompared old new left right found → left ≡ []
    → ((s : ℕ) → has_number more s ≡ (has_number found s || has_row right s)) → (s : ℕ)
    → has_number more s ≡ is_changed old new s
end_right {old} {new} {left} {right} {found} more was none is s = grind (arith, right_only)

-- ---- the list of all who changed

-- a candidate without rows isn't changed
nothing_of : (rows : List SeatRow) (s : ℕ) → has_row rows s ≡ false → rows_of s rows ≡ []
nothing_of [] s h = refl
nothing_of (r ∷ rs) s h = grind (arith, common_steps, nothing_of rs s)

pub changed_has_row : (old new : List SeatRow) (s : ℕ)
    → (is_changed old new s && has_row (old ++ new) s) ≡ is_changed old new s
changed_has_row old new s = grind (arith, list_any-append, nothing_of)

pub listed : (old new : List SeatRow) (found : List ℕ) → IsAscending found
    → ((s : ℕ) → has_number found s ≡ is_changed old new s) → found ≡ changed_students old new
listed old new found up members =
    search (rules, same_list, ascending_from_chain, chain_filter, chain_ascending, changed_has_row, any_map, has_ascending, has_filter)
