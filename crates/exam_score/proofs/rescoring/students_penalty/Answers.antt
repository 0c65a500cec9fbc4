use Rattle.std.proofs.Common.{◌≡◌, ◌∙◌, ℕ, List, sym, ap, arith}
use Rattle.exam_score.specs.Penalty.{personal_total}
use Rattle.exam_score.specs.Rescoring.{students_penalty}
use Rattle.exam_score.proofs.RescoringLemmas.{students_small, sum_whole, sums_small}
use Rattle.exam_score.proofs.rescoring.students_penalty.Goals as goal

pub plus-sum-requires : goal.plus-sum-requires
plus-sum-requires c =
    let I = c.args.instance.now in
    let E = c.args.enrolments.now in
    let T = c.args.timetable.now in
    let rest : students_penalty I E T c.loop-student.rest.now ≡ _ =
    ap (λ (xs : List ℕ). students_penalty I E T xs) c.in-Some.ensures.cases.0 in
    let small = students_small I E T c.args.students.now c.lemma_limits.ensures
    c.lemma_order.ensures in
    let sums = sums_small c.loop-student.sum c.in_ok-more.more
    (students_penalty I E T c.in-Some.others.now) (students_penalty I E T c.loop-student.rest.now)
    (students_penalty I E T c.args.students.now) c.loop-student.invariant
    (c.in_ok-more.ensures ∙ sym rest) small in
    omega (arith, sums)

pub returns-clause-small : goal.returns-clause-small
returns-clause-small c =
    let I = c.args.instance.now in
    let E = c.args.enrolments.now in
    let T = c.args.timetable.now in
    let small = students_small I E T c.args.students.now c.lemma_limits.ensures
    c.lemma_order.ensures in
    let whole = sum_whole I E T c.loop-student.rest.now c.loop-student.sum
    (students_penalty I E T c.args.students.now) c.loop-student.invariant
    c.in_default.ensures.cases in
    omega (arith, ap personal_total whole, small)
