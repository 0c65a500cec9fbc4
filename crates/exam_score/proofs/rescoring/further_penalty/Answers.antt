use Rattle.std.proofs.Common.{◌≡◌, ◌∙◌, sym, ap}
use Rattle.exam_score.specs.Penalty.{penalty_sum}
use Rattle.exam_score.specs.Personal.{personal_of}
use Rattle.exam_score.specs.Rescoring.{student_penalty, students_penalty}
use Rattle.exam_score.proofs.RescoringLemmas.{penalty_more}
use Rattle.exam_score.proofs.rescoring.further_penalty.Goals as goal

pub returns : goal.returns
returns c =
    let I = c.args.instance.now in
    let E = c.args.enrolments.now in
    let T = c.args.timetable.now in
    let others = c.args.others.now in
    let own : c.personal.result ≡ student_penalty I E T c.args.student
    = c.personal.ensures
    ∙ ap (personal_of I.periods I.weights) (c.deref.ensures.value ∙ c.in_ok-periods.ensures.periods) in
    ap (λ p. penalty_sum p (students_penalty I E T others)) own
    ∙ penalty_more I E T c.args.student others (sym c.is_among.ensures ∙ c.if-is_among.false)
