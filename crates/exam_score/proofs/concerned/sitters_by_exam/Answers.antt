use Rattle.std.proofs.Common.{◌∙◌, ◌<◌, ◌++◌, length, take, filter, sym, ap, ap₂, arith}
use Rattle.std.proofs.lemmas.List.Elements.{filter-append}
use Rattle.exam_model.specs.Enrolments.{students}
use Rattle.exam_model.specs.Pairs.{Pair, pairs_at, pairs_of}
use Rattle.exam_score.specs.Exchanges.{sits_among}
use Rattle.exam_model.proofs.PairLemmas.{pairs_more}
use Rattle.exam_score.proofs.concerned.sitters_by_exam.Goals as goal

pub loop-exam-preserved : goal.loop-exam-preserved
loop-exam-preserved c =
    let E = c.args.enrolments.now in
    let e = c.loop-exam.exam in
    let test = λ (p : Pair). sits_among E c.args.edited.now p.student in
    let lt : e < length E = omega (arith, c.loop-exam-test.true, c.exams-exam-end.ensures.count) in
    c.in_ok-add_sitters.ensures
    ∙ ap₂ (λ a b. a ++ b) c.loop-exam.invariant
    (ap (λ k. filter test (pairs_at k (students E k))) c.new.ensures)
    ∙ sym (filter-append test (pairs_of (take e E)) (pairs_at e (students E e)))
    ∙ ap (filter test) (sym (pairs_more E e lt))
