use Rattle.std.specs.List.{cons_option}
use Rattle.std.proofs.Common.{◌≡◌, ◌<◌, ◌++◌, ◌∷◌, [], length, sym, ◌∙◌, ap, ap₂, arith, append-nil, length-append}
use Rattle.exam_score.specs.Rescoring.{sat_period}
use Rattle.exam_score.proofs.RescoringLemmas.{periods_more}
use Rattle.exam_score.proofs.rescoring.periods_of.Goals as goal
use Rattle.exam_score.proofs.rescoring.periods_of.Goals.{in-Some+in_ok-push, in_default}

pub loop-exam-preserved : goal.loop-exam-preserved
loop-exam-preserved c =
    let E = c.args.enrolments.now in
    let T = c.args.timetable.now in
    let s = c.args.student in
    let e = c.loop-exam.exam in
    let was = c.loop-exam.periods.items in
    let within : e < length E = omega (arith, c.loop-exam-test.true, c.exams-exam-end.ensures.count) in
    let more = periods_more E T s e c.exams-exam-end.ensures.kept within in
    let sat : c.sat_period.result ≡ sat_period E T s e =
    c.sat_period.ensures ∙ ap (sat_period E T s) c.new-exam.ensures in
    elim c.match-sat_period.branch [
      | in-Some+in_ok-push w ↦
          (let items = ap (λ v. v.items) w.periods-is ∙ w.in_ok-push.ensures.items in
          record {
            periods = items ∙ ap₂ (λ a b. a ++ b) c.loop-exam.invariant.periods
                (ap (λ o. cons_option o []) (w.in-Some.ensures ∙ ap (sat_period E T s) c.new-exam.ensures)) ∙ sym more;
            few = omega (arith, ap length items, length-append was (w.in-Some.period ∷ []), c.loop-exam.invariant.few);
          })
      | in_default w ↦
          (let items = ap (λ v. v.items) w.periods-is in
          record {
            periods = items ∙ sym (append-nil was)
                ∙ ap₂ (λ a b. a ++ b) c.loop-exam.invariant.periods
                (ap (λ o. cons_option o []) (sym w.in_default.is ∙ sat)) ∙ sym more;
            few = omega (arith, ap length items, c.loop-exam.invariant.few);
          })
    ]
