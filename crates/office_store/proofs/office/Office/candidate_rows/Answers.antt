use Rattle.std.proofs.Common.{subst}
use Rattle.office_store.specs.Viewing.{AreCandidateRows}
use Rattle.office_store.proofs.CommandLemmas.{represented}
use Rattle.office_store.proofs.ViewLemmas.{candidate_seats_read, enrols_read, places_read}
use Rattle.office_store.proofs.office.Office.candidate_rows.Goals as goal

pub returns-clause-rows : goal.returns-clause-rows
returns-clause-rows g c clean office kept =
    let n = c.get-number.result in
    let last = c.in_ok-seats.ensures.leaves in
    let later = represented last clean office kept in
    let next = c.in_ok-places.ensures.leaves in
    let first = represented next (last.clean clean) office later in
    subst (λ n. AreCandidateRows office n c.in_ok-enrols.enrols.items c.in_ok-places.places.items
    c.in_ok-seats.seats.items) c.get-number.ensures.number
    (record {
      of_enrols = enrols_read first.held office n _ first.represents first.office
          (c.in_ok-enrols.ensures.rows (next.clean (last.clean clean)) office first).in_order;
      of_places = places_read later.held office n _ later.represents later.office
          (c.in_ok-places.ensures.rows (last.clean clean) office later).in_order;
      of_seats = candidate_seats_read kept.held office n _ kept.represents kept.office
          (c.in_ok-seats.ensures.rows clean office kept).in_order;
    })
