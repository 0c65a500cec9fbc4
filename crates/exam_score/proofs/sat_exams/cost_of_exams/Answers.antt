use Rattle.std.proofs.Common.{◌∙◌, take_all, sum_by, ap, arith}
use Rattle.exam_score.proofs.EditedLemmas.{edited_beside, edited_once}
use Rattle.exam_score.proofs.sat_exams.cost_of_exams.Goals as goal

pub returns-clause-cost : goal.returns-clause-cost
returns-clause-cost g c =
    let exams = c.args.exams.now in
    let laws = g.met.C.PairCost.laws in
    c.loop-exam.invariant.sum
    ∙ ap (sum_by
    (edited_beside (g.C.PairCost.cost_of c.args.cost.now) c.args.timetable.now
    c.args.edited.now exams))
    (take_all c.loop-exam.exam-index exams (omega arith))
    ∙ edited_once (g.C.PairCost.cost_of c.args.cost.now) c.args.timetable.now c.args.edited.now
    (laws.symmetric c.args.cost.now) (laws.zero_on_equal c.args.cost.now) exams
