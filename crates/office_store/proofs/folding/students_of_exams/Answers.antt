use Rattle.std.proofs.Common.{◌∙◌, ◌++◌, ap, ap₂, sym, take, take_all}
use Rattle.std.specs.List.{flat_map}
use Rattle.std.proofs.lemmas.List.{take_more}
use Rattle.exam_lists.proofs.Maps.{flat_map_push}
use Rattle.exam_model.specs.Enrolments.{students}
use Rattle.exam_publish.specs.Changed.{sorted_numbers}
use Rattle.office_store.proofs.folding.students_of_exams.Goals as goal

pub loop-exam-preserved : goal.loop-exam-preserved
loop-exam-preserved c =
    let E = c.args.enrolments.now in
    let exams = c.args.exams.now in
    let i = c.loop-exam.exam-index in
    c.in_ok-extend_from_slice.ensures.items
    ∙ ap₂ (λ a b. a ++ b) c.loop-exam.invariant
    (c.students.ensures.all ∙ ap (students E) c.exam-item.is)
    ∙ sym (ap (flat_map (students E)) (take_more exams i c.exam-item.result c.loop-exam-test.true)
    ∙ flat_map_push (students E) (take i exams) _)

pub returns : goal.returns
returns c =
    c.in_order.ensures
    ∙ ap sorted_numbers (c.loop-exam.invariant ∙ ap (flat_map (students c.args.enrolments.now))
    (take_all c.loop-exam.exam-index c.args.exams.now c.loop-exam-test.false))
