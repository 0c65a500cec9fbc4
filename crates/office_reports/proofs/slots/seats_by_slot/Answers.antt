use Rattle.std.proofs.Common.{◌+◌, ◌∙◌, ap, sym, arith}
use Rattle.std.proofs.lemmas.Bool.{true≢false}
use Rattle.std.proofs.lemmas.List.{get_or_read}
use Rattle.office_reports.proofs.SlotLemmas.{seat_outside, seat_put}
use Rattle.office_reports.proofs.slots.seats_by_slot.Goals as goal
use Rattle.office_reports.proofs.slots.seats_by_slot.Goals.{then-has_place, else-has_place}

pub slot_of-slot-requires-clause-period : goal.slot_of-slot-requires-clause-period
slot_of-slot-requires-clause-period c = (c.has_place.ensures.0 c.if-has_place.true).0

pub slot_of-slot-requires-clause-room : goal.slot_of-slot-requires-clause-room
slot_of-slot-requires-clause-room c = (c.has_place.ensures.0 c.if-has_place.true).1

pub seats-preserved : goal.seats-preserved
seats-preserved c =
    let rows = c.args.seats.now in
    let i = c.seats.seat-index in
    elim c.if-has_place.branch [
      | then-has_place w ↦
          let exists = c.has_place.ensures.0 w.if-has_place.true in
          let read =
          get_or_read c.seats.counts.items w.slot_of-slot.result w.index.result.now
          (omega (arith, w.slot_of-slot.ensures.within, c.seats.invariant.count))
          w.index.ensures 0 in
          let put = ap (λ n. n + 1) (rw w.slot_of-slot.ensures.slot at read) in
          rw (w.counts-is, w.slot_of-slot.ensures.slot)
          (seat_put rows i c.seats.invariant c.seats-test.true c.seat-item.is
          c.place_of-place.ensures exists put)
      | else-has_place w ↦
          rw w.counts-is (seat_outside rows i c.seats.invariant c.seats-test.true c.seat-item.is
          c.place_of-place.ensures
          (λ h. true≢false (sym (c.has_place.ensures.1 h) ∙ w.if-has_place.false)))
    ]
