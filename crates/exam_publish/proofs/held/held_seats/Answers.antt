use Rattle.std.proofs.lemmas.Grind.{common_steps}
use Rattle.std.proofs.Common.{◌≡◌, ◌<◌, false, get_or, length, ap, sym, subst, ◌∙◌, arith}
use Rattle.std.specs.Prelude.{IfSome}
use Rattle.std.proofs.lemmas.List.{get_or_read, take_all}
use Rattle.exam_model.specs.Fits.{slot_of}
use Rattle.exam_publish.specs.Rows.{row_place}
use Rattle.exam_publish.specs.Seating.{KeepsOwnPlace}
use Rattle.exam_publish.specs.declared.entrants.Entrant.{Entrant}
use Rattle.exam_publish.specs.declared.seat_row.SeatRow.{SeatRow}
use Rattle.exam_publish.proofs.HeldLemmas.{are_held, held_left, held_more, held_rows, held_same}
use Rattle.exam_publish.proofs.held.held_seats.Goals as goal

pub entrants-preserved-in_default : goal.entrants-preserved-in_default
entrants-preserved-in_default c = grind (arith, common_steps, held_same, c.entrants.invariant)

pub entrants-preserved-then-not-index : goal.entrants-preserved-then-not-index
entrants-preserved-then-not-index c =
    let I = c.args.instance.now in
    let rooms = length I.rooms in
    let xs = c.args.entrants.now in
    let x : Entrant = c.entrant-item.result in
    let needed = c.in_ok-needed.needed.items in
    let row = c.in-Some.row in
    let own : KeepsOwnPlace x =
    subst KeepsOwnPlace (sym c.entrant-item.is)
    (c.requires.placed c.entrants.entrant-index x c.entrants-test.true) in
    let placed : row_place row ≡ x.place =
    subst (λ o. IfSome o (λ (r : SeatRow). row_place r ≡ x.place)) c.in-Some.is own in
    let slot = c.slot_of-slot.ensures.slot in
    let lt : c.slot_of-slot.result < length needed =
    omega (arith, c.slot_of-slot.ensures.within, c.in_ok-needed.ensures.count) in
    let read : c.index.result.now ≡ get_or needed (slot_of rooms x.place) false =
    get_or_read needed c.slot_of-slot.result c.index.result.now lt c.index.ensures false
    ∙ ap (λ k. get_or needed k false) slot in
    held_left needed rooms xs c.entrants.entrant-index x row c.entrants.held.items
    c.entrants-test.true c.entrant-item.is c.in-Some.is placed (sym read ∙ c.if-not-index.true)
    c.entrants.invariant

pub entrants-preserved : goal.entrants-preserved
entrants-preserved c =
    let I = c.args.instance.now in
    let rooms = length I.rooms in
    let xs = c.args.entrants.now in
    let x : Entrant = c.entrant-item.result in
    let needed = c.in_ok-needed.needed.items in
    let row = c.in-Some.row in
    let own : KeepsOwnPlace x =
    subst KeepsOwnPlace (sym c.entrant-item.is)
    (c.requires.placed c.entrants.entrant-index x c.entrants-test.true) in
    let placed : row_place row ≡ x.place =
    subst (λ o. IfSome o (λ (r : SeatRow). row_place r ≡ x.place)) c.in-Some.is own in
    let slot = c.slot_of-slot.ensures.slot in
    let lt : c.slot_of-slot.result < length needed =
    omega (arith, c.slot_of-slot.ensures.within, c.in_ok-needed.ensures.count) in
    let read : c.index.result.now ≡ get_or needed (slot_of rooms x.place) false =
    get_or_read needed c.slot_of-slot.result c.index.result.now lt c.index.ensures false
    ∙ ap (λ k. get_or needed k false) slot in
    held_more needed rooms xs c.entrants.entrant-index x row c.entrants.held.items
    c.push.new.self.items c.entrants-test.true c.entrant-item.is c.in-Some.is placed
    (sym read ∙ c.if-not-index.false) c.entrants.invariant c.in_ok-push.ensures.items

pub returns : goal.returns
returns c =
    let I = c.args.instance.now in
    let needed = c.in_ok-needed.needed.items in
    are_held needed (length I.periods) (length I.rooms) c.args.entrants.now c.entrants.held.items
    c.sort_unstable.new.self.items c.requires.small c.in_ok-needed.ensures
    (c.entrants.invariant
    ∙ ap (held_rows needed (length I.rooms))
    (take_all c.entrants.entrant-index c.args.entrants.now
    (omega (arith, c.entrants-test.false))))
    c.sort_unstable.ensures.permutation c.sort_unstable.ensures.sorted
