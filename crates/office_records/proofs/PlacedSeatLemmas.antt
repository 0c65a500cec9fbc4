-- Seats of a timetable: in order, at their exams' places, and no two equal.
use Rattle.std.proofs.lemmas.Grind.{common_steps}
use Rattle.std.proofs.Common.{◌≡◌, ℕ, ◌+◌, Bool, true, false, not, List, get_or, Ordering, Less, is_lt, nat_cmp, refl, sym, ◌∙◌, arith, true≢false}
use Rattle.std.specs.Cmp.{IsTotalOrder}
use Rattle.std.specs.List.{IsAllAdjacentAnswer}
use Rattle.std.specs.List.Sorted.{IsSortedByKey}
use Rattle.std.specs.Ordering.{ordering_then}
use Rattle.std.specs.Prelude.{AllPairs, IsPermutation, IsTrue, ◌↔◌}
use Rattle.std.proofs.lemmas.Bool.Decides.{nat_tests}
use Rattle.std.proofs.lemmas.Cmp.{nat_cmp_total, on_total, then_total}
use Rattle.std.proofs.lemmas.List.Sorted.{IsPermutation-sym}
use Rattle.exam_lists.proofs.Chains.{chain_from_index, chain_from_next, chain_weaker, index_from_chain}
use Rattle.exam_lists.proofs.Permutations.{chain_permutation}
use Rattle.exam_publish.specs.declared.seat_row.SeatRow.{SeatRow}
use Rattle.exam_publish.specs.Rows.{RowBefore, RowsInOrder, is_pair_before, row_pair}
use Rattle.exam_publish.specs.Seats.{HaveOwnSeats}
use Rattle.exam_publish.proofs.ChangedLemmas.{before_from_test}
use Rattle.office_records.specs.FoundPublications.{is_same_seat}
use Rattle.office_records.proofs.OrderLemmas.{before_then}

abbrev no_row : SeatRow
no_row = record { student = 0; exam = 0; period = 0; room = 0; seat = 0 }

-- ---- in order

test_from_before : (x y : SeatRow) → RowBefore x y → is_pair_before (row_pair x) (row_pair y) ≡ true
test_from_before x y h = grind (arith, nat_tests, h)

pub in_order_is : (rows : List SeatRow) (r : Bool)
    → IsAllAdjacentAnswer (λ x y b. b ≡ is_pair_before (row_pair x) (row_pair y)) rows r
    → IsTrue r ↔ RowsInOrder rows
in_order_is rows true all = (
  λ _. index_from_chain RowBefore rows (chain_from_next RowBefore
      (λ x y z h k. before_then (row_pair x) (row_pair y) (row_pair z) h k) rows
      (λ k d within. before_from_test (row_pair (get_or rows k d))
      (row_pair (get_or rows (k + 1) d)) (sym (all k d within)))),
  λ _. refl,
)
in_order_is rows false some = (
  λ no. absurd (true≢false (sym no)),
  λ order. absurd (true≢false (sym (some.2 no_row
      ∙ test_from_before (get_or rows some.0 no_row) (get_or rows (some.0 + 1) no_row)
      (order some.0 (some.0 + 1) no_row (omega arith) some.1)))),
)

-- ---- no two equal seats

-- by period, then room, then seat
abbrev pub chair : SeatRow → (ℕ × ℕ) × ℕ
chair row = ((row.period, row.room), row.seat)

abbrev pub chair_cmp : (ℕ × ℕ) × ℕ → (ℕ × ℕ) × ℕ → Ordering
chair_cmp x y =
    ordering_then (ordering_then (nat_cmp x.0.0 y.0.0) (nat_cmp x.0.1 y.0.1)) (nat_cmp x.1 y.1)

abbrev row_cmp : SeatRow → SeatRow → Ordering
row_cmp x y = chair_cmp (chair x) (chair y)

total : IsTotalOrder row_cmp
total =
    on_total chair
    (then_total (on_total (λ (c : (ℕ × ℕ) × ℕ). c.0)
    (then_total (on_total (λ (p : ℕ × ℕ). p.0) nat_cmp_total)
    (on_total (λ (p : ℕ × ℕ). p.1) nat_cmp_total)))
    (on_total (λ (c : (ℕ × ℕ) × ℕ). c.1) nat_cmp_total))

-- rows with different seats that are not out of order are in order
less_from : (x y : SeatRow) → is_lt (row_cmp y x) ≡ false → true ≡ not (is_same_seat x y)
    → row_cmp x y ≡ Less
less_from x y low apart = grind (arith, nat_tests, low, apart)

own_from_less : (x y : SeatRow) → row_cmp x y ≡ Less → HaveOwnSeats x y
own_from_less x y less p r s = grind (arith, nat_tests, less, p, r, s)

not_own : (x y : SeatRow) → false ≡ not (is_same_seat x y) → HaveOwnSeats x y → ⊥
not_own x y same own = grind (arith, common_steps)

own_turned : (x y : SeatRow) → HaveOwnSeats x y → HaveOwnSeats y x
own_turned x y own p r s = own (sym p) (sym r) (sym s)

pub own_seats_are : (rows sorted : List SeatRow) (r : Bool) → IsPermutation rows sorted
    → IsSortedByKey chair chair_cmp sorted
    → IsAllAdjacentAnswer (λ x y b. b ≡ not (is_same_seat x y)) sorted r
    → IsTrue r ↔ AllPairs HaveOwnSeats rows
own_seats_are rows sorted true moved order all = (
  λ _. index_from_chain HaveOwnSeats rows
      (chain_permutation HaveOwnSeats own_turned sorted rows (IsPermutation-sym rows sorted moved)
      (chain_weaker (λ x y. row_cmp x y ≡ Less) HaveOwnSeats own_from_less sorted
      (chain_from_next (λ x y. row_cmp x y ≡ Less) total.trans sorted
      (λ k d within. less_from (get_or sorted k d) (get_or sorted (k + 1) d)
      (order k d (omega arith) within) (all k d within))))),
  λ _. refl,
)
own_seats_are rows sorted false moved order some = (
  λ no. absurd (true≢false (sym no)),
  λ own. absurd (not_own (get_or sorted some.0 no_row) (get_or sorted (some.0 + 1) no_row)
      (some.2 no_row)
      (index_from_chain HaveOwnSeats sorted
      (chain_permutation HaveOwnSeats own_turned rows sorted moved
      (chain_from_index HaveOwnSeats rows own)) some.0 (some.0 + 1) no_row (omega arith) some.1)),
)
