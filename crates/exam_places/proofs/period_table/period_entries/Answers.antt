use Rattle.std.proofs.Common.{◌∙◌, ap, ap₂, sym, arith}
use Rattle.std.proofs.lemmas.List.{get_or_read}
use Rattle.exam_rules.proofs.PlaceLemmas.{its_place_exists}
use Rattle.exam_places.specs.PeriodTable.{no_exams_in, with_shared}
use Rattle.exam_places.specs.declared.period_table.PeriodEntry.{PeriodEntry}
use Rattle.exam_places.proofs.SizeLemmas.{entry_shared}
use Rattle.exam_places.proofs.TableLemmas.{period_put}
use Rattle.exam_places.proofs.period_table.period_entries.Goals as goal

pub with_exam-entry-requires-clause-few : goal.with_exam-entry-requires-clause-few
with_exam-entry-requires-clause-few c =
    let u = c.args.unplaced.now in
    let there = sym (rw c.new-exam.ensures at c.get.ensures) ∙ c.in-Some.is in
    let exists = its_place_exists u.instance.now _ _ _ c.requires.fits.places there in
    let read = get_or_read c.exams.table.items c.get-period.result c.index.result.now
    (omega (arith, c.get-period.ensures, exists.0, c.exams.invariant.count)) c.index.ensures
    no_exams_in in
    let entry = ap (λ (x : PeriodEntry). x.shared)
    (read ∙ c.exams.invariant.each c.get-period.result (omega (arith, c.get-period.ensures, exists.0)))
    in
    let few = entry_shared u c.lemma_order.ensures c.exams.number c.get-period.result
    (omega (arith, c.requires.fits.enrolments)) (omega (arith, c.requires.fits.enrolments)) in
    omega (arith, entry, few, c.new-exam.ensures)

pub exams-preserved : goal.exams-preserved
exams-preserved c =
    let u = c.args.unplaced.now in
    let there = sym (rw c.new-exam.ensures at c.get.ensures) ∙ c.in-Some.is in
    let exists = its_place_exists u.instance.now _ _ _ c.requires.fits.places there in
    let read = get_or_read c.exams.table.items c.get-period.result c.index.result.now
    (omega (arith, c.get-period.ensures, exists.0, c.exams.invariant.count)) c.index.ensures
    no_exams_in in
    rw c.get-period.ensures
    (period_put c.exams.invariant there exists.0
    (c.with_exam-entry.ensures
    ∙ ap₂ (with_shared u) c.new-exam.ensures (rw c.get-period.ensures at read)))
