use Rattle.std.proofs.lemmas.Grind.{common_steps}
use Rattle.std.proofs.Common.{◌≡◌, ◌≤◌, ◌∙◌, List, length, map, All, ap, sym, subst, arith}
use Rattle.exam_model.specs.Pairs.{pairs_of}
use Rattle.exam_publish.specs.declared.seat_row.SeatRow.{SeatRow}
use Rattle.exam_publish.specs.declared.entrants.Entrant.{Entrant}
use Rattle.exam_publish.specs.Rows.{ArePublishedRows, row_pair}
use Rattle.exam_publish.specs.Seats.{AreSeated, rows_for, seat_rows}
use Rattle.exam_publish.specs.Entrants.{entrants}
use Rattle.exam_publish.specs.Seating.{AreHeld, EntrantExists}
use Rattle.exam_publish.proofs.EntrantLemmas.{entrants_few, entrants_exist, entrants_keep, entrants_placed}
use Rattle.exam_publish.proofs.SeatLemmas.{are_seats}
use Rattle.exam_publish.proofs.seating.seats.Goals as goal

pub held_seats-requires : goal.held_seats-requires
held_seats-requires c =
    grind (arith, common_steps, entrants_exist, entrants_keep, entrants_placed)

pub seat_all-requires : goal.seat_all-requires
seat_all-requires c =
    let I = c.args.instance.now in
    let E = c.args.enrolments.now in
    let T = c.args.timetable.now in
    let old = c.args.old.now in
    let first = c.deref.ensures.value ∙ c.in_ok-entrants.ensures in
    let second : c.deref-2.result.now ≡ entrants (pairs_of E) T old =
    c.deref-2.ensures.value ∙ c.in_ok-entrants.ensures in
    record {
      exist = subst (All (EntrantExists I)) (sym second) (entrants_exist I E T old c.requires.fits);
      few = subst (λ (xs : List Entrant). length xs ≤ 200000) (sym second)
          (entrants_few E T old c.lemma_order.ensures);
      held = subst (λ (xs : List Entrant). AreHeld xs c.deref-3.result.now)
          (first ∙ sym second)
          (subst (AreHeld c.deref.result.now)
          (sym c.deref-3.ensures.value) c.in_ok-held.ensures);
    }

pub returns : goal.returns
returns c =
    let I = c.args.instance.now in
    let E = c.args.enrolments.now in
    let T = c.args.timetable.now in
    let old = c.args.old.now in
    let rows : c.in_ok-rows.rows.items ≡ seat_rows (pairs_of E) T old =
    c.in_ok-rows.ensures ∙ ap rows_for (c.deref-2.ensures.value ∙ c.in_ok-entrants.ensures) in
    let are = are_seats I E T old c.requires.fits c.lemma_order.ensures c.requires.permitted
    c.requires.old_seated in
    record {
      rows = rows;
      pairs = ap (map row_pair) rows ∙ are.pairs;
      seated = subst (AreSeated I) (sym rows) are.seated;
      published = subst (λ (xs : List SeatRow). ArePublishedRows I xs T) (sym rows) are.published;
    }
