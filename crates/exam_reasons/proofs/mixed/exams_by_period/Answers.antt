use Rattle.std.proofs.Common.{◌<◌, ap, arith, get_or, length, subst}
use Rattle.exam_reasons.proofs.MixedLemmas.{few_exams}
use Rattle.exam_reasons.proofs.mixed.exams_by_period.Goals as goal

-- as many exams as were counted are fewer than all
pub count_place-requires : goal.count_place-requires
count_place-requires c =
    let T = c.args.timetable.now in
    record {
      few = λ p lt.
          omega (
            arith,
            ap (λ l. get_or l p 0) c.deref_mut.ensures.value,
            c.loop-exam.invariant.counted p
                (subst (λ l. p < length l) c.deref_mut.ensures.value lt),
            few_exams T p c.args.room c.loop-exam.exam,
            c.loop-exam-test.true,
            c.exams-exam-end.ensures,
            c.lemma_limit.ensures,
          );
    }
