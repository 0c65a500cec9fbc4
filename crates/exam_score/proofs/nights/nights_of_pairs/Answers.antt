use Rattle.std.proofs.Common.{◌+◌, ◌*◌, sym, ◌∙◌, ap, subst, arith}
use Rattle.std.proofs.lemmas.List.{get_or_default}
use Rattle.exam_score.specs.Cost.{night_cost}
use Rattle.exam_score.specs.Kinds.{over_night}
use Rattle.exam_score.proofs.CostLemmas.{cost_in-small}
use Rattle.exam_score.proofs.NightLemmas.{weightless_tallies}
use Rattle.exam_score.proofs.WalkLemmas.{IsCostTo, cost_to_more, cost_to-small}
use Rattle.exam_score.proofs.nights.nights_of_pairs.Goals as goal

pub nights_with_exam-more-requires : goal.nights_with_exam-more-requires
nights_with_exam-more-requires c = record {
  within = c.loop-at-test.true;
  here = λ d. get_or_default c.args.tallies.now c.loop-at.at d c.index-tallies-at.result
      c.loop-at-test.true
      ∙ sym c.index-tallies-at.is;
  linked = c.requires.linked;
  few = c.requires.few;
}

-- the sum with one more tally
more : (c : goal.After-from-exams)
    → IsCostTo (night_cost c.args.instance.now.periods c.args.instance.now.weights)
    c.args.tallies.now (c.loop-at.at + 1)
    (c.loop-at.total + c.nights_with_exam-more.result * c.from-exams.result)
more c =
    let I = c.args.instance.now in
    let cost = night_cost I.periods I.weights in
    subst (λ n. IsCostTo cost c.args.tallies.now (c.loop-at.at + 1)
    (c.loop-at.total + c.nights_with_exam-more.result * n)) (sym c.from-exams.ensures)
    (cost_to_more cost c.args.tallies.now c.loop-at.at _ _ c.index-tallies-at.result
    c.loop-at-test.true c.index-tallies-at.is
    (cost_in-small I c.lemma_limits.ensures over_night) c.requires.few c.loop-at.invariant
    c.nights_with_exam-more.ensures)

pub loop-at-preserved : goal.loop-at-preserved
loop-at-preserved c = more c

pub overflow_add-total : goal.overflow_add-total
overflow_add-total c =
    let small = cost_to-small _ c.args.tallies.now _ _ c.requires.few (more c) in omega arith

pub overflow_mul-total : goal.overflow_mul-total
overflow_mul-total c =
    let small = cost_to-small _ c.args.tallies.now _ _ c.requires.few (more c) in omega arith

pub returns-then-weights-eq0 : goal.returns-then-weights-eq0
returns-then-weights-eq0 c =
    let I = c.args.instance.now in
    sym (weightless_tallies I.periods I.weights c.args.tallies.now
    (ap (λ w. w.night) (sym c.weights-weights.ensures.weights) ∙ c.if-weights-eq0.true))
