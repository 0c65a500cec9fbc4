-- Strictly rising rows have no other rising order.
use Rattle.std.proofs.lemmas.Grind.{common_steps}
use Rattle.std.proofs.Common.{◌≡◌, ℕ, ◌+◌, ◌<◌, ◌≤◌, List, ◌++◌, map, length, get_or, is_lt, Less, Ordering, refl, ◌∙◌, ap, ap₂, arith}
use Rattle.std.specs.Cmp.{IsTotalOrder}
use Rattle.std.specs.List.{AllByRecursion}
use Rattle.std.specs.List.Sorted.{IsSortedByKey}
use Rattle.std.specs.Ordering.{ordering_reverse}
use Rattle.std.specs.Prelude.{IsPermutation}
use Rattle.std.proofs.lemmas.Cmp.{on_total}
use Rattle.std.proofs.lemmas.List.{get_or-map, length-map}
use Rattle.std.proofs.lemmas.List.Sorted.{IsPermutation-sym, IsPermutation-trans}
use Rattle.exam_lists.proofs.Chains.{IsChain, chain_from_index, chain_weaker, chain_with_each}
use Rattle.exam_lists.proofs.Each.{each_append, each_weaker}
use Rattle.exam_lists.proofs.Orders.{PairBefore, pair_cmp, pair_less, pair_total}
use Rattle.sqlite_trees.specs.Tree.{IsAscending}
use Rattle.sqlite_keyed.proofs.ListLemmas.{ascending-append, ascending-map, ascending_weaker}
use Rattle.sqlite_keyed.proofs.SortLemmas.{sorted_unique}
use Rattle.exam_model.specs.Pairs.{Pair, ComesBefore}
use Rattle.exam_publish.specs.declared.seat_row.SeatRow as publish
use Rattle.exam_publish.specs.Rows.{RowBefore, RowsInOrder}
use Rattle.exam_publish.specs.Shares.{Sharing}
use Rattle.office_tables.specs.declared.tables.share_part.PartShareRow.{PartShareRow}
use Rattle.office_tables.specs.declared.tables.seat.SeatRow.{SeatRow}
use Rattle.office_records.specs.Publications.{stored_seat}
use Rattle.office_records.specs.PartShares.{part_rows, plain_rows, room_rows}
use Rattle.exam_lists.proofs.Numbered.{each_numbered, rows_rise}
use Rattle.office_records.proofs.PartRowLemmas.{no_share, plain_are, rooms_are}

-- ---- one order

module _ {X K : Type 0} (key : X → K) (cmp : K → K → Ordering) (total : IsTotalOrder cmp)
    (Before : K → K → Type 0) (less : (j k : K) → Before j k → cmp j k ≡ Less) where
  -- the order of rising rows is the only rising one
  pub one_order : (found rising sorted : List X)
      → IsAscending (λ x y. Before (key x) (key y)) rising → IsPermutation found rising
      → IsPermutation found sorted → IsSortedByKey key cmp sorted → sorted ≡ rising
  one_order found rising sorted up same moved order =
      sorted_unique (λ x y. cmp (key x) (key y)) (on_total key total) rising sorted
      (ascending_weaker (λ x y. Before (key x) (key y)) (λ x y. cmp (key x) (key y) ≡ Less)
      (λ x y h. less (key x) (key y) h) rising up)
      (IsPermutation-trans _ _ _ (IsPermutation-sym _ _ same) moved) order

-- ---- seats

pub before_then : (p q r : Pair) → ComesBefore p q → ComesBefore q r → ComesBefore p r
before_then p q r h k = grind (arith, h, k)

abbrev pub own_row : SeatRow → publish.SeatRow
own_row row = record {
  student = row.student;
  exam = row.exam;
  period = row.period;
  room = row.room;
  seat = row.seat;
}

abbrev pub seat_key : SeatRow → ℕ × ℕ
seat_key row = (row.exam, row.student)

-- seats in order rise by exam and student
pub seats_rise : (own : List publish.SeatRow) → RowsInOrder own
    → IsAscending (λ x y. PairBefore (seat_key x) (seat_key y)) (map stored_seat own)
seats_rise own order =
    ascending-map (λ x y. PairBefore (seat_key x) (seat_key y)) stored_seat own
    (chain_from_index RowBefore own order)

-- so they are sorted
pub seats_sorted : (own : List publish.SeatRow) → RowsInOrder own
    → IsSortedByKey seat_key pair_cmp (map stored_seat own)
seats_sorted own order k d least within =
    let long = length-map own stored_seat in
    let second : k + 1 < length own = omega (arith, long, within) in
    let x = stored_seat (get_or own k (own_row d)) in
    let y = stored_seat (get_or own (k + 1) (own_row d)) in
    ap₂ (λ (x y : SeatRow). is_lt (pair_cmp (seat_key x) (seat_key y)))
    (get_or-map stored_seat own (k + 1) (own_row d) d second)
    (get_or-map stored_seat own k (own_row d) d (omega (arith, second)))
    ∙ ap is_lt (pair_total.antisymm (seat_key y) (seat_key x)
    ∙ ap ordering_reverse (pair_less (seat_key x) (seat_key y)
    (order k (k + 1) (own_row d) (omega arith) second)))

-- ---- parts of shares

abbrev pub part_key : PartShareRow → ℕ × ℕ
part_key row = (row.kind, row.no)

abbrev PartBefore : PartShareRow → PartShareRow → Type 0
PartBefore x y = PairBefore (part_key x) (part_key y)

-- rows of one kind rise by their numbers
of_kind : (kind : ℕ) (rows : List PartShareRow) → AllByRecursion (λ row. row.kind ≡ kind) rows
    → IsChain (λ x y. x.no < y.no) rows → IsChain PartBefore rows
of_kind kind rows all up = grind (arith, common_steps, chain_weaker, chain_with_each)

-- rows are before those of greater kinds
kinds_before : (n : ℕ) (xs ys : List PartShareRow) → AllByRecursion (λ row. row.kind < n) xs
    → AllByRecursion (λ row. n ≤ row.kind) ys
    → AllByRecursion (λ row. AllByRecursion (PartBefore row) ys) xs
kinds_before n xs ys low high = grind (arith, common_steps, each_weaker)

plain_each : (P : ℕ → Type 0) (kind : ℕ) (shares : List ℕ) → P kind
    → AllByRecursion (λ row. P row.kind) (plain_rows kind 0 shares)
plain_each P kind shares h =
    each_numbered (plain_are kind) (λ row. P row.kind) 0 0 shares (λ k m within is. h)

plain_rise : (kind : ℕ) (shares : List ℕ) → IsChain PartBefore (plain_rows kind 0 shares)
plain_rise kind shares =
    of_kind kind (plain_rows kind 0 shares) (plain_each (λ n. n ≡ kind) kind shares refl)
    (rows_rise (plain_are kind) (λ (row : PartShareRow). row.no) (λ n x. refl) 0 shares)

-- the rows of shares rise by kind and number
pub parts_rise : (shares : Sharing)
    → IsAscending (λ x y. PairBefore (part_key x) (part_key y)) (part_rows shares)
parts_rise shares =
    let exams = plain_rows 0 0 shares.exams in
    let periods = plain_rows 1 0 shares.periods in
    let rooms = room_rows 0 shares.rooms in
    let rooms_each = λ (P : ℕ → Type 0) (h : P 2).
    each_numbered rooms_are (λ row. P row.kind) no_share 0 shares.rooms (λ k m within is. h) in
    ascending-append PartBefore exams (periods ++ rooms) (plain_rise 0 shares.exams)
    (ascending-append PartBefore periods rooms (plain_rise 1 shares.periods)
    (of_kind 2 rooms (rooms_each (λ n. n ≡ 2) refl)
    (rows_rise rooms_are (λ (row : PartShareRow). row.no) (λ n x. refl) 0 shares.rooms))
    (kinds_before 2 periods rooms (plain_each (λ n. n < 2) 1 shares.periods (omega arith))
    (rooms_each (λ n. 2 ≤ n) (omega arith))))
    (kinds_before 1 exams (periods ++ rooms) (plain_each (λ n. n < 1) 0 shares.exams (omega arith))
    (each_append (λ row. 1 ≤ row.kind) periods rooms
    (plain_each (λ n. 1 ≤ n) 1 shares.periods (omega arith))
    (rooms_each (λ n. 1 ≤ n) (omega arith))))
