use Rattle.std.proofs.Common.{ap, map, sym, ◌∙◌}
use Rattle.office_tables.specs.declared.tables.enrol.EnrolRow.{EnrolRow}
use Rattle.office_store.specs.Judging.{plain_list}
use Rattle.office_store.specs.Viewing.{place_in_row}
use Rattle.office_store.proofs.PublishedReadLemmas.{returned_fault}
use Rattle.office_store.proofs.ViewLemmas.{exams_shown, listed_fault, not_bad, returned_of_same}
use Rattle.office_store.proofs.viewing.exams_from.Goals as goal

pub returns-in_err-seats : goal.returns-in_err-seats
returns-in_err-seats c = record {
  meaning = λ s r is same own_rows.
      returned_fault _ (plain_list c.from_residual-in_err-seats.result) c.in_err-seats.field-0.0
      (listed_fault c.from_residual-in_err-seats.result _ c.from_residual-in_err-seats.ensures.1)
      (λ bad. not_bad r c.args.instance.now s is same _ _ _ own_rows
      (λ own numbered stored. c.in_err-seats.ensures.none bad own numbered
      (stored ∙ sym c.deref-3.ensures.value)));
}

pub returns : goal.returns
returns c = record {
  meaning = λ s r is same own_rows.
      exams_shown r c.args.instance.now s is same _ _ _ own_rows
      c.in_ok-enrolled.enrolled.items c.in_ok-places.places.items
      c.in_ok-seats.seats.items c.in_ok-rows.rows.items
      (c.in_ok-enrolled.ensures ∙ ap (map (λ (row : EnrolRow). row.exam)) c.deref.ensures.value)
      (c.in_ok-places.ensures ∙ ap (map place_in_row) c.deref-2.ensures.value)
      (λ all stored. c.in_ok-seats.ensures.only all (stored ∙ sym c.deref-3.ensures.value))
      (returned_of_same c.args.instance.now c.in_ok-rows.rows.items _ _ _ _ _ _
      c.deref-4.ensures.value c.deref-5.ensures.value c.deref-6.ensures.value
      c.in_ok-rows.ensures);
}
