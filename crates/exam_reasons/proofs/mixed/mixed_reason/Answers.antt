use Rattle.exam_reasons.proofs.MixedLemmas.{few_cost_nothing}
use Rattle.exam_reasons.proofs.mixed.mixed_reason.Goals as goal

-- one exam at most costs nothing
pub returns-then-exams-lt2 : goal.returns-then-exams-lt2
returns-then-exams-lt2 c =
    few_cost_nothing c.args.instance.now c.args.timetable.now c.args.period c.args.room
    c.args.exams c.lemma_limits.ensures c.requires.fits.exams c.requires.counted
    c.if-exams-lt2.true
