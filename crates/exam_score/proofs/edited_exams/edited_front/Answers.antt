use Rattle.std.proofs.Common.{◌≡◌, arith}
use Rattle.exam_model.specs.Timetable.{place_of}
use Rattle.exam_score.specs.Front.{front_by}
use Rattle.exam_score.specs.Touched.{sum_over_exams}
use Rattle.exam_score.proofs.EditedSumLemmas.{front_small, sum_done}
use Rattle.exam_score.proofs.edited_exams.edited_front.Goals as goal

pub overflow_add-total : goal.overflow_add-total
overflow_add-total c =
    let all = front_small c.args.instance.now c.args.sizes.now c.args.timetable.now
    c.args.edited.now c.lemma_limits.ensures in
    omega (arith, all, c.loop-exam.invariant, c.front_share-total.ensures.small)

whole : (c : goal.In_default) → c.loop-exam.total
    ≡ sum_over_exams c.args.instance.now c.args.edited.now
    (λ e. front_by c.args.instance.now c.args.sizes.now (place_of c.args.timetable.now e) e)
whole c =
    sum_done c.args.instance.now _ _ c.loop-exam.left.now _ c.in_default.ensures.cases
    c.loop-exam.invariant

pub returns-clause-front : goal.returns-clause-front
returns-clause-front c = whole c

pub returns-clause-small : goal.returns-clause-small
returns-clause-small c =
    let all = front_small c.args.instance.now c.args.sizes.now c.args.timetable.now
    c.args.edited.now c.lemma_limits.ensures in
    omega (arith, all, whole c)
