use Rattle.std.proofs.Common.{◌≡◌, ◌∙◌, ◌+◌, [], sym, ap, arith, add-zero}
use Rattle.std.proofs.lemmas.List.{nil_from_length}
use Rattle.exam_score.specs.Touched.{is_touched, mixed_cost_if}
use Rattle.exam_score.proofs.FurtherLemmas.{mixed_none}
use Rattle.exam_score.proofs.SmallLemmas.{mixed_where_small}
use Rattle.exam_score.proofs.touched.touched_mixed.Goals as goal

pub overflow_add-total : goal.overflow_add-total
overflow_add-total c =
    let I = c.args.instance.now in
    let touched = c.args.touched.now in
    let all = mixed_where_small I c.args.timetable.now
    (is_touched touched.edited.now touched.earlier.now touched.later.now)
    c.lemma_limits.ensures in
    omega (arith, all, c.loop-exam.invariant, c.exam_mixed-total.ensures.small)

whole : (c : goal.In_default) → c.loop-exam.total
    ≡ mixed_cost_if c.args.instance.now c.args.timetable.now
    (is_touched c.args.touched.now.edited.now c.args.touched.now.earlier.now
    c.args.touched.now.later.now)
whole c =
    let I = c.args.instance.now in
    let T = c.args.timetable.now in
    let touched = c.args.touched.now in
    let total = c.loop-exam.total in
    let nil : c.loop-exam.left.now ≡ [] =
    nil_from_length c.loop-exam.left.now c.in_default.ensures.cases in
    sym (add-zero total) ∙ ap (λ n. total + n) (sym (mixed_none I T))
    ∙ ap (λ left. total + mixed_cost_if I T (is_touched left touched.earlier.now touched.later.now))
    (sym nil)
    ∙ c.loop-exam.invariant

pub returns-clause-part : goal.returns-clause-part
returns-clause-part c = whole c

pub returns-clause-small : goal.returns-clause-small
returns-clause-small c =
    let I = c.args.instance.now in
    let touched = c.args.touched.now in
    let all = mixed_where_small I c.args.timetable.now
    (is_touched touched.edited.now touched.earlier.now touched.later.now)
    c.lemma_limits.ensures in
    omega (arith, all, whole c)
