use Rattle.std.proofs.Common.{rules, ◌≡◌, ◌∙◌, Err, ap, refl, subst, sym}
use Rattle.std.specs.List.{flat_map}
use Rattle.exam_model.specs.Enrolments.{IsAscending, students}
use Rattle.exam_publish.proofs.ListLemmas.{ascends}
use Rattle.exam_score.specs.Folds.{Folded}
use Rattle.exam_score.specs.Front.{AreSizes}
use Rattle.exam_score.specs.Track.{track}
use Rattle.office_store.specs.Folding.{pairs_of_students, students_of_exams}
use Rattle.office_store.specs.Running.{ReturnsValue}
use Rattle.office_store.proofs.FoldingLemmas.{fold_of, returned_after}
use Rattle.office_store.proofs.folding.penalty_after.Goals as goal

pub fold_students-requires-clause-ascending : goal.fold_students-requires-clause-ascending
fold_students-requires-clause-ascending g c =
    subst IsAscending (sym (c.deref-3.ensures.value ∙ c.in_ok-students.ensures))
    (ascends (flat_map (students c.args.enrolments.now) c.deref.result.now))

pub returns-in_err-fold-clause-meaning : goal.returns-in_err-fold-clause-meaning
returns-in_err-fold-clause-meaning g c had of =
    let is : c.from_residual-in_err-fold.result ≡ Err c.in_err-fold.field-0.0 = search rules in
    subst (ReturnsValue (track c.args.instance.now c.args.enrolments.now c.args.judged.now.new))
    (sym is)
    (c.in_err-fold.ensures.fault c.args.enrolments.now had)

pub returns-clause-meaning : goal.returns-clause-meaning
returns-clause-meaning g c had of =
    let I = c.args.instance.now in
    let E = c.args.enrolments.now in
    let judged = c.args.judged.now in
    let empty = c.in_ok-empty.empty in
    let made = c.in_ok-empty.ensures.made in
    let represents = c.in_ok-fold.ensures.represents in
    let found = c.deref-3.ensures.value ∙ c.in_ok-students.ensures
    ∙ ap (students_of_exams E) c.deref.ensures.value in
    subst (ReturnsValue (track I E judged.new)) (sym c.ok_or.ensures.value)
    (returned_after had of
    (fold_of {empty = empty} {edited = empty.edited} c.in_ok-fold.ensures.of
    (record {
      session = ap (λ (f : Folded). f.instance) made;
      before = ap (λ (f : Folded). f.earlier) made;
      after = ap (λ (f : Folded). f.later) made;
      exams = refl;
    }))
    (ap (λ (f : Folded). f.edited) made ∙ c.deref-2.ensures.value)
    (subst (AreSizes E) (sym c.deref-4.ensures.value) c.in_ok-sizes.ensures) represents.1
    (represents.2 E had ∙ ap (pairs_of_students E) found)
    (λ is. c.finish.ensures.scored E represents.0 represents.1 is))
