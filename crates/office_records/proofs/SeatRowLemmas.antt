-- Seats and the rows that the tables have of them.
use Rattle.std.proofs.Common.{◌≡◌, ℕ, ◌<◌, ◌≤◌, List, length, map, get_or, refl, sym, ap, subst, arith}
use Rattle.std.specs.List.Sorted.{IsSortedByKey}
use Rattle.std.specs.Prelude.{IsPermutation}
use Rattle.std.proofs.lemmas.List.{get_or-map, length-map}
use Rattle.exam_lists.proofs.Maps.{same_unmapped}
use Rattle.exam_lists.proofs.Orders.{PairBefore, pair_cmp, pair_less, pair_total}
use Rattle.exam_publish.specs.declared.seat_row.SeatRow as publish
use Rattle.exam_publish.specs.Rows.{AreNumbered, RowsInOrder}
use Rattle.office_tables.specs.declared.tables.seat.SeatRow.{SeatRow}
use Rattle.office_records.specs.Publications.{stored_seat}
use Rattle.office_records.proofs.OrderLemmas.{one_order, own_row, seat_key, seats_rise, seats_sorted}

-- stored rows are those of one list of seats
pub same_seats : (own others : List publish.SeatRow) → map stored_seat own ≡ map stored_seat others
    → own ≡ others
same_seats = same_unmapped stored_seat own_row (λ x. refl)

-- a stored row's student has a number
pub not_numbered : (rows : List SeatRow) (own : List publish.SeatRow) → AreNumbered own
    → map stored_seat own ≡ rows → (i : ℕ) (d : SeatRow) → i < length rows
    → 999999999 < (get_or rows i d).student → ⊥
not_numbered rows own numbered same i d within high =
    let long = length-map own stored_seat in
    let inside : i < length own = let size = ap length same in omega (arith, size, long, within) in
    let low : (get_or rows i d).student ≤ 999999999
    = subst (λ (l : List SeatRow). (get_or l i d).student ≤ 999999999) same
    (subst (λ (row : SeatRow). row.student ≤ 999999999)
    (sym (get_or-map stored_seat own i (own_row d) d inside)) (numbered i (own_row d) inside)) in
    absurd (omega (arith, low, high))

-- sorted rows are those of seats in order
pub sorted_seats : (found sorted : List SeatRow) (own : List publish.SeatRow) → RowsInOrder own
    → IsPermutation found (map stored_seat own) → IsPermutation found sorted
    → IsSortedByKey seat_key pair_cmp sorted → sorted ≡ map stored_seat own
sorted_seats found sorted own order =
    one_order seat_key pair_cmp pair_total PairBefore pair_less found (map stored_seat own) sorted
    (seats_rise own order)

-- rows are those of one list of seats in order
pub one_in_order : (found : List SeatRow) (own others : List publish.SeatRow) → RowsInOrder own
    → RowsInOrder others → IsPermutation found (map stored_seat own)
    → IsPermutation found (map stored_seat others) → own ≡ others
one_in_order found own others order up same also =
    same_seats own others
    (sym (sorted_seats found (map stored_seat others) own order same also (seats_sorted others up)))
