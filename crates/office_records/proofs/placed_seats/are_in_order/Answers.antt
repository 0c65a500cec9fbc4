use Rattle.std.proofs.Common.{rules}
use Rattle.std.proofs.lemmas.Fn.{always_returns_same}
use Rattle.exam_publish.specs.Rows.{is_pair_before, row_pair}
use Rattle.exam_publish.specs.declared.seat_row.SeatRow.{SeatRow}
use Rattle.office_records.proofs.PlacedSeatLemmas.{in_order_is}
use Rattle.office_records.proofs.placed_seats.are_in_order.Goals as goal

pub returns : goal.returns
returns c =
    in_order_is c.args.rows.now c.is_sorted_by.result
    (c.is_sorted_by.ensures.cases (λ (x : SeatRow) y. is_pair_before (row_pair x) (row_pair y))
    (always_returns_same _ _ _ (λ a r f k. search rules)))
