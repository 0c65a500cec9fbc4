use Rattle.std.proofs.Common.{ℕ, rules, subst}
use Rattle.std.specs.Prelude.{IsPermutation}
use Rattle.std.proofs.lemmas.Fn.{always_returns_same}
use Rattle.office_tables.specs.declared.tables.seat.SeatRow.{SeatRow}
use Rattle.office_records.proofs.OrderLemmas.{seat_key}
use Rattle.office_records.proofs.SeatRowLemmas.{sorted_seats}
use Rattle.office_records.proofs.seats.by_exam.Goals as goal

pub returns-clause-only : goal.returns-clause-only
returns-clause-only c own order same =
    let sorted = c.sort_by_key.new.self.items in
    let key : SeatRow → ℕ × ℕ = seat_key in
    sorted_seats c.args.rows.now sorted own order same
    (subst (λ l. IsPermutation l sorted) c.in_ok-sorted.ensures.items
    c.in_ok-sort_by_key.ensures.permutation)
    (c.in_ok-sort_by_key.ensures.sorted key (always_returns_same _ _ _ (λ a r f k. search rules)))
