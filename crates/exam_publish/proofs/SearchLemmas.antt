-- The results of a binary search among rows in order, and among seats in order.
use Rattle.std.proofs.lemmas.Grind.{common_steps}
use Rattle.std.specs.List.{list_any, find}
use Rattle.std.specs.List.Sorted.{IsBinarySearchResult, IsSearchInRange, IsSortedBy}
use Rattle.std.specs.Ordering.{nat_cmp, ordering_then, is_eq, is_lt}
use Rattle.std.specs.Cmp.{then_total, on_total, nat_cmp_total, IsTotalOrder}
use Rattle.std.proofs.Common.{◌≡◌, ℕ, ◌+◌, ◌<◌, ◌≤◌, ◌⊎◌, inl, inr, Bool, true, false, cond, List, [], length, get_or, Some, None, Result, Ok, Err, All, IsSorted, Equal, refl, sym, ◌∙◌, ap, subst, arith, eqb-true, rules, is_ok, ◌&&◌}
use Rattle.std.proofs.lemmas.Bool.{cases_lt, cases_eq, and_parts, and_from, false_from_ne_true, true≢false, and_right}
use Rattle.std.proofs.lemmas.Bool.Decides.{nat_tests}
use Rattle.std.proofs.lemmas.List.{get_or_default}
use Rattle.std.proofs.lemmas.List.Folds.{Any-from_list_any}
use Rattle.std.proofs.lemmas.List.Sorted.{searchable_from_sorted}
use Rattle.exam_lists.proofs.Searches.{find_none, find_one, search_finds_any}
use Rattle.exam_lists.proofs.Tests.{any_agree}
use Rattle.exam_lists.proofs.Orders.{pair_total}
use Rattle.exam_model.specs.Pairs.{Pair, is_pair}
use Rattle.exam_terms.specs.declared.place.Place.{Place}
use Rattle.exam_rules.specs.Places.{is_one_place}
use Rattle.exam_publish.specs.declared.held.Held.{Held}
use Rattle.exam_publish.specs.declared.seat_row.SeatRow.{SeatRow}
use Rattle.exam_publish.specs.Rows.{row_place, RowBefore, RowsInOrder}
use Rattle.exam_publish.specs.Seating.{compare_held, is_held}
use Rattle.exam_publish.specs.Entrants.{IsIndexOf, IsRowOf, is_row_at}

-- ---- seats in order

held_total : IsTotalOrder compare_held
held_total =
    then_total (on_total (λ (x : Held). x.period) nat_cmp_total)
    (then_total (on_total (λ (x : Held). x.room) nat_cmp_total)
    (on_total (λ (x : Held). x.seat) nat_cmp_total))

is_this : (x h : Held) → is_eq (compare_held h x)
    ≡ is_held (record { period = x.period; room = x.room }) x.seat h
is_this x h = grind (arith, nat_tests)

pub held_found : (xs : List Held) (x : Held) (r : Result ℕ ℕ) → IsSorted compare_held xs
    → IsSearchInRange r (length xs) → IsBinarySearchResult (λ y. compare_held y x) xs r
    → is_ok r ≡ list_any (is_held (record { period = x.period; room = x.room }) x.seat) xs
held_found xs x r sorted bound is =
    search_finds_any compare_held held_total (λ y. y) xs x x r sorted bound is
    ∙ any_agree (λ y. is_eq (compare_held y x))
    (is_held (record { period = x.period; room = x.room }) x.seat) (is_this x) xs

-- a held seat has a number of at most 100,000
pub held_small : (xs : List Held) (at : Place) (n : ℕ) → All (λ (h : Held). h.seat ≤ 100000) xs
    → list_any (is_held at n) xs ≡ true → n ≤ 100000
held_small xs at n small any = grind (arith, Any-from_list_any, and_parts, eqb-true)

-- ---- rows in order

abbrev key : SeatRow → ℕ × ℕ
key row = (row.exam, row.student)

not_less : (r q : SeatRow) → RowBefore r q
    → is_lt (ordering_then (nat_cmp q.exam r.exam) (nat_cmp q.student r.student)) ≡ false
not_less r q h = grind (arith, common_steps, nat_tests)

sorted_rows : (xs : List SeatRow) → RowsInOrder xs
    → IsSortedBy
    (λ (a b : SeatRow). is_lt (ordering_then (nat_cmp a.exam b.exam) (nat_cmp a.student b.student)))
    xs
sorted_rows xs order k d low lt =
    not_less (get_or xs k d) (get_or xs (k + 1) d) (order k (k + 1) d (omega arith) lt)

-- a row of another pair is not the one that is looked for
other_row : (p : Pair) (at : Place) (row : SeatRow)
    → is_eq (ordering_then (nat_cmp row.exam p.exam) (nat_cmp row.student p.student)) ≡ false
    → is_row_at p at row ≡ false
other_row p at row h = grind (arith, common_steps, false_from_ne_true, and_parts, eqb-true, nat_tests, true≢false)

pair_of : (row : SeatRow) (p : Pair)
    → ordering_then (nat_cmp row.exam p.exam) (nat_cmp row.student p.student) ≡ Equal
    → is_pair row.student row.exam p ≡ true
pair_of row p h = grind (arith, nat_tests, h)

other_pair : (p : Pair) (at : Place) (q row : SeatRow) → is_pair row.student row.exam p ≡ true
    → RowBefore q row ⊎ RowBefore row q → is_row_at p at q ≡ false
other_pair p at q row mine apart = grind (arith, and_parts, eqb-true, false_from_ne_true)

-- the row found by a search for a pair
pub row_found : (xs : List SeatRow) (p : Pair) (at : Place) (i : ℕ) (row : SeatRow) → RowsInOrder xs
    → i < length xs → row ≡ get_or xs i row
    → ordering_then (nat_cmp row.exam p.exam) (nat_cmp row.student p.student) ≡ Equal
    → find (is_row_at p at) xs ≡ cond (is_one_place at (row_place row)) (Some row) None
row_found xs p at i row order lt is equal = go (is_one_place at (row_place row)) refl
  where
    mine : is_pair row.student row.exam p ≡ true
    mine = pair_of row p equal

    others : (k : ℕ) (d : SeatRow) → k < length xs → (k ≡ i → ⊥)
        → is_row_at p at (get_or xs k d) ≡ false
    others k d within other =
        let here : row ≡ get_or xs i d = is ∙ get_or_default xs i row d lt in
        elim (cases_lt k i) as (λ _. is_row_at p at (get_or xs k d) ≡ false) [
          | inl below ↦ other_pair p at (get_or xs k d) row mine
              (inl (subst (RowBefore (get_or xs k d)) (sym here) (order k i d below lt)))
          | inr above ↦
              other_pair p at (get_or xs k d) row mine
              (inr (subst (λ r. RowBefore r (get_or xs k d)) (sym here)
              (order i k d (omega arith) within)))
        ]

    go : (b : Bool) → is_one_place at (row_place row) ≡ b
        → find (is_row_at p at) xs ≡ cond b (Some row) None
    go true here = grind (arith, and_from, find_one, mine, others)
    go false away = grind (arith, and_right, cases_eq, find_none, get_or_default, others)

pub no_row : (xs : List SeatRow) (p : Pair) (at : Place) (i : ℕ) → RowsInOrder xs
    → IsBinarySearchResult
    (λ (y : SeatRow). ordering_then (nat_cmp y.exam p.exam) (nat_cmp y.student p.student)) xs
    (Err i)
    → find (is_row_at p at) xs ≡ None
no_row xs p at i order is =
    let parts = is
    (searchable_from_sorted pair_total key xs (p.exam, p.student) (sorted_rows xs order)) in
    find_none (is_row_at p at) xs
    (λ k d lt. other_row p at (get_or xs k d)
    (elim (cases_lt k i)
    as (λ _. is_eq
    (ordering_then (nat_cmp (get_or xs k d).exam p.exam)
    (nat_cmp (get_or xs k d).student p.student))
    ≡ false) [
      | inl below ↦ ap is_eq (parts.0 k d (omega arith) below)
      | inr above ↦ ap is_eq (parts.1 k d above lt)
    ]))

-- ---- the index of a pair's row

tied_pair : (row : SeatRow) (p : Pair) → row.exam ≡ p.exam → row.student ≡ p.student
    → ordering_then (nat_cmp row.exam p.exam) (nat_cmp row.student p.student) ≡ Equal
tied_pair row p exam student = grind (arith, nat_tests)

pub index_here : (xs : List SeatRow) (p : Pair) (i : ℕ) → RowsInOrder xs → IsRowOf xs p i
    → IsIndexOf xs p i
index_here xs p i order of = search (rules, row_found, get_or_default, tied_pair)

pub index_found : (xs : List SeatRow) (p : Pair) (i : ℕ) → RowsInOrder xs → i < length xs
    → IsBinarySearchResult
    (λ (y : SeatRow). ordering_then (nat_cmp y.exam p.exam) (nat_cmp y.student p.student)) xs
    (Ok i)
    → IsIndexOf xs p i
index_found xs p i order lt is = search (rules, row_found, get_or_default)

pub index_none : (xs : List SeatRow) (p : Pair) (i : ℕ) → RowsInOrder xs
    → IsBinarySearchResult
    (λ (y : SeatRow). ordering_then (nat_cmp y.exam p.exam) (nat_cmp y.student p.student)) xs
    (Err i)
    → IsIndexOf xs p (length xs)
index_none xs p i order is = record {
  within = omega arith;
  none = λ e at. no_row xs p at i order is;
  one = λ lt at d. absurd (omega arith);
}
