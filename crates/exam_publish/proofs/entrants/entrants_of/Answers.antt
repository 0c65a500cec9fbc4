use Rattle.std.proofs.lemmas.Grind.{common_steps}
use Rattle.std.proofs.Common.{◌≡◌, ◌<◌, ◌++◌, Some, length, map, ap, ap₂, sym, ◌∙◌, arith, ℕ}
use Rattle.exam_model.specs.Enrolments.{students}
use Rattle.exam_model.specs.Timetable.{place_of}
use Rattle.exam_publish.specs.Entrants.{entrant}
use Rattle.exam_publish.proofs.EntrantLemmas.{exam_more, exam_nowhere}
use Rattle.exam_publish.proofs.entrants.entrants_of.Goals as goal

pub exams-preserved-in_default : goal.exams-preserved-in_default
exams-preserved-in_default c =
    grind (arith, common_steps, exam_nowhere)

pub exams-preserved : goal.exams-preserved
exams-preserved c =
    let E = c.args.enrolments.now in
    let T = c.args.timetable.now in
    let old = c.args.old.now in
    let e = c.exams.exam in
    let at = c.in-Some.place in
    let here : place_of T e ≡ Some at =
    ap (place_of T) (sym c.new-exam.ensures) ∙ sym c.get.ensures ∙ c.in-Some.is in
    let lt : e < length E = omega (arith, c.exams-test.true, c.exams-exam-end.ensures.count) in
    let same = c.students.ensures.all ∙ ap (students E) c.new-exam.ensures in
    exam_more E T old e at c.exams.found.items c.add_entrants.new.found.items lt here
    c.exams.invariant
    (c.in_ok-add_entrants.ensures
    ∙ ap₂ (λ k xs. c.exams.found.items
    ++ map (λ (s : ℕ). entrant old (record { exam = k; student = s }) at) xs)
    c.new-exam.ensures same)
