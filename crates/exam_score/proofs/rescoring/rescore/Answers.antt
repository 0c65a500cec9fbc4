use Rattle.exam_score.proofs.RescoringLemmas.{rescored}
use Rattle.exam_score.proofs.rescoring.rescore.Goals as goal

pub returns-in-Some : goal.returns-in-Some
returns-in-Some c =
    rescored c.args.instance.now c.args.before.now c.args.after.now c.args.timetable.now
    c.args.students.now c.args.parts c.in_ok-goes.goes c.in_ok-comes.comes c.in-Some.new
    c.lemma_order.ensures c.lemma_order-2.ensures c.requires.before c.requires.after
    c.requires.others c.in_ok-goes.ensures c.in_ok-comes.ensures c.in-Some.ensures.made
