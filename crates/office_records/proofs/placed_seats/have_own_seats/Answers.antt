use Rattle.std.proofs.Common.{◌≡◌, ℕ, not, rules, subst, List}
use Rattle.std.specs.List.{IsAllAdjacentAnswer}
use Rattle.std.specs.Prelude.{IsPermutation}
use Rattle.std.proofs.lemmas.Fn.{always_returns_same}
use Rattle.exam_publish.specs.declared.seat_row.SeatRow.{SeatRow}
use Rattle.office_records.specs.FoundPublications.{is_same_seat}
use Rattle.office_records.proofs.PlacedSeatLemmas.{chair, own_seats_are}
use Rattle.office_records.proofs.placed_seats.have_own_seats.Goals as goal

pub returns : goal.returns
returns c =
    let sorted = c.sort_by_key.new.self.items in
    let key : SeatRow → (ℕ × ℕ) × ℕ = chair in
    own_seats_are c.args.rows.now sorted c.is_sorted_by.result
    (subst (λ l. IsPermutation l sorted) c.in_ok-sorted.ensures.items
    c.in_ok-sort_by_key.ensures.permutation)
    (c.in_ok-sort_by_key.ensures.sorted key (always_returns_same _ _ _ (λ a r f k. search rules)))
    (subst (λ (l : List SeatRow). IsAllAdjacentAnswer (λ x y b. b ≡ not (is_same_seat x y)) l
    c.is_sorted_by.result) c.deref.ensures.value
    (c.is_sorted_by.ensures.cases (λ (x : SeatRow) y. not (is_same_seat x y))
    (always_returns_same _ _ _ (λ a r f k. search rules))))
