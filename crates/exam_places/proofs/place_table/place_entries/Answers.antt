use Rattle.std.proofs.Common.{◌∙◌, ap, ap₂, sym, arith}
use Rattle.std.proofs.lemmas.List.{get_or_read}
use Rattle.exam_rules.proofs.PlaceLemmas.{its_place_exists}
use Rattle.exam_places.specs.PlaceTable.{no_exams_at, with_exam}
use Rattle.exam_places.specs.declared.place_table.PlaceEntry.{PlaceEntry}
use Rattle.exam_places.proofs.SizeLemmas.{entry_students}
use Rattle.exam_places.proofs.TableLemmas.{place_put}
use Rattle.exam_places.proofs.place_table.place_entries.Goals as goal

pub with_exam-entry-requires-clause-few : goal.with_exam-entry-requires-clause-few
with_exam-entry-requires-clause-few c =
    let u = c.args.unplaced.now in
    let there = sym (rw c.new-exam.ensures at c.get.ensures) ∙ c.in-Some.is in
    let exists = its_place_exists u.instance.now _ _ _ c.requires.unplaced.fits.places there in
    let read = get_or_read c.exams.table.items c.slot_of-slot.result c.index.result.now
    (omega (arith, c.slot_of-slot.ensures.within, c.exams.invariant.count)) c.index.ensures
    no_exams_at in
    let entry = ap (λ (x : PlaceEntry). x.students)
    (rw c.slot_of-slot.ensures.slot at read
    ∙ c.exams.invariant.each c.in-Some.place exists.0 exists.1) in
    let few = entry_students u c.lemma_order.ensures c.exams.number c.in-Some.place
    (omega (arith, c.requires.unplaced.fits.enrolments)) in
    omega (arith, entry, few, c.new-exam.ensures)

pub exams-preserved : goal.exams-preserved
exams-preserved c =
    let u = c.args.unplaced.now in
    let there = sym (rw c.new-exam.ensures at c.get.ensures) ∙ c.in-Some.is in
    let exists = its_place_exists u.instance.now _ _ _ c.requires.unplaced.fits.places there in
    let read = get_or_read c.exams.table.items c.slot_of-slot.result c.index.result.now
    (omega (arith, c.slot_of-slot.ensures.within, c.exams.invariant.count)) c.index.ensures
    no_exams_at in
    rw c.slot_of-slot.ensures.slot
    (place_put c.exams.invariant there exists
    (c.with_exam-entry.ensures
    ∙ ap₂ (with_exam u) c.new-exam.ensures (rw c.slot_of-slot.ensures.slot at read)))
