use Rattle.std.proofs.lemmas.Grind.{common_steps}
use Rattle.std.proofs.Common.{◌≡◌, ◌+◌, ◌<◌, ◌++◌, ◌∷◌, [], length, get_or, ap, sym, subst, ◌∙◌, arith}
use Rattle.std.specs.Prelude.{slice_set, slice_index}
use Rattle.std.proofs.lemmas.List.{get_or_read}
use Rattle.exam_model.specs.Fits.{slot_of}
use Rattle.exam_publish.specs.Seating.{EntrantExists}
use Rattle.exam_publish.specs.declared.entrants.Entrant.{Entrant}
use Rattle.exam_publish.proofs.GivingLemmas.{AreGiven, none_given, new_given, last_small}
use Rattle.exam_publish.proofs.seating.seat_all.Goals as goal

pub entrants-init : goal.entrants-init
entrants-init c =
    grind (arith, common_steps, none_given)

pub overflow_add-index : goal.overflow_add-index
overflow_add-index c =
    let I = c.args.instance.now in
    let x : Entrant = c.entrant-item.result in
    let last = c.entrants.last.items in
    let exists : EntrantExists I x =
    subst (EntrantExists I) (sym c.entrant-item.is)
    (c.requires.exist c.entrants.entrant-index x c.entrants-test.true) in
    let slot = c.slot_of-slot.ensures.slot in
    let lt : c.slot_of-slot.result < length last =
    omega (arith, c.slot_of-slot.ensures.within, c.entrants.invariant.table.count) in
    let n_at : c.index.result.now ≡ slice_index last (slot_of (length I.rooms) x.place)
    = get_or_read last c.slot_of-slot.result c.index.result.now lt c.index.ensures 0
    ∙ ap (λ k. get_or last k 0) slot in
    let small = last_small c.args.entrants.now (length I.periods)
    (length I.rooms) c.entrants.entrant-index c.index.result.now last c.entrants.rows.items
    x.place c.entrants.invariant exists.period exists.room n_at in
    let few = c.requires.few in
    omega (arith, small, few, c.entrants-test.true)

pub entrants-preserved : goal.entrants-preserved
entrants-preserved c =
    let I = c.args.instance.now in
    let xs = c.args.entrants.now in
    let x : Entrant = c.entrant-item.result in
    let last = c.entrants.last.items in
    let rows = c.entrants.rows.items in
    let exists : EntrantExists I x =
    subst (EntrantExists I) (sym c.entrant-item.is)
    (c.requires.exist c.entrants.entrant-index x c.entrants-test.true) in
    let slot = c.slot_of-slot.ensures.slot in
    let lt : c.slot_of-slot.result < length last =
    omega (arith, c.slot_of-slot.ensures.within, c.entrants.invariant.table.count) in
    let n_at : c.index.result.now ≡ slice_index last (slot_of (length I.rooms) x.place)
    = get_or_read last c.slot_of-slot.result c.index.result.now lt c.index.ensures 0
    ∙ ap (λ k. get_or last k 0) slot in
    let added = c.in_ok-push-2.ensures.items ∙ ap (λ row. rows ++ row ∷ []) c.new_row.ensures in
    subst (λ k. AreGiven xs (length I.periods) (length I.rooms) (c.entrants.entrant-index + 1)
    (slice_set last k c.next_free-seat.result) c.push-in-entrants.new.self.items)
    (sym slot)
    (new_given xs c.args.held.now (length I.periods)
    (length I.rooms) c.entrants.entrant-index c.index.result.now c.next_free-seat.result last
    rows c.push-in-entrants.new.self.items x
    c.entrants.invariant c.requires.held c.entrants-test.true c.entrant-item.is c.in_default.is
    exists.period exists.room n_at c.next_free-seat.ensures added)
