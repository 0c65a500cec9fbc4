use Rattle.std.proofs.lemmas.Result.{IfOk-weaker}
use Rattle.exam_reasons.proofs.PairLemmas.{holds_pairs}
use Rattle.exam_reasons.proofs.pairs.costly_pairs.Goals as goal

-- the conflicts that cost something
pub returns-in-Some-clause-reasons : goal.returns-in-Some-clause-reasons
returns-in-Some-clause-reasons c =
    IfOk-weaker c.costly_conflicts.result _ _
    (λ pairs is. holds_pairs c.args.instance.now c.args.enrolments.now c.args.timetable.now
    pairs.items is) c.costly_conflicts.ensures

-- the pairs that cost something
pub returns-clause-reasons : goal.returns-clause-reasons
returns-clause-reasons c =
    IfOk-weaker c.costly_exams.result _ _
    (λ pairs is. holds_pairs c.args.instance.now c.args.enrolments.now c.args.timetable.now
    pairs.items is) c.costly_exams.ensures
