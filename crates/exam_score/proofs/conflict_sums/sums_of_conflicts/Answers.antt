use Rattle.std.proofs.Common.{◌≡◌, ℕ, ◌≤◌, List, length, map, ◌+◌, ◌*◌, ◌^◌, ◌<◌, ◌∙◌, ap, arith, get_or}
use Rattle.std.proofs.lemmas.List.Sums.{sum_by-take-le}
use Rattle.exam_model.specs.Fits.{period_of}
use Rattle.exam_model.specs.Instance.{Session}
use Rattle.exam_model.specs.Timetable.{Placing, period_number}
use Rattle.exam_model.specs.declared.conflicts.Conflict.{Conflict}
use Rattle.exam_model.specs.PairCost.{cost_between}
use Rattle.exam_score.specs.ConflictCosts.{AreInTimetable, conflict_cost}
use Rattle.exam_score.specs.Kinds.{TableKind, table_amount, table_cost}
use Rattle.exam_score.proofs.ConflictCostLemmas.{cost_by_numbers, cost_more}
use Rattle.exam_score.proofs.KindLemmas.{each_in_table}
use Rattle.exam_score.proofs.conflict_sums.sums_of_conflicts.Goals as goal

-- the costs by the numbers of periods are those of the conflict
numbered : (I : Session) (k : TableKind) (T : Placing) (xs : List Conflict) (i : ℕ) (x : Conflict)
    (numbers : List ℕ) → length I.periods ≤ 200 → numbers ≡ map period_number T
    → AreInTimetable T xs → i < length xs → x ≡ get_or xs i x
    → table_cost I k (get_or numbers x.exam 0) (get_or numbers x.other 0)
    ≡ cost_between (table_cost I k) (period_of T x.exam) (period_of T x.other)
numbered I k T xs i x numbers few are exist lt here =
    let within = exist i x lt in
    let one = ap (λ (z : Conflict). z.exam) here in
    let two = ap (λ (z : Conflict). z.other) here in
    cost_by_numbers I k T numbers x.exam x.other few are (omega arith) (omega arith)

pub add_costs-requires-clause-room : goal.add_costs-requires-clause-room
add_costs-requires-clause-room c = each_in_table room
  where
    room : (k : TableKind) → table_amount c.loop-conflict.sums k
        + table_cost c.args.instance.now k (get_or c.deref.result.now c.conflict-item.result.exam 0)
        (get_or c.deref.result.now c.conflict-item.result.other 0)
        * c.conflict-item.result.students < 2 ^ 64
    room k =
        let cost = table_cost c.args.instance.now k in
        let T = c.args.timetable.now in
        let xs = c.args.conflicts.now in
        let i = c.loop-conflict.conflict-index in
        let x = c.conflict-item.result in
        let sum = cost_more cost T xs i x _ _ c.loop-conflict-test.true c.conflict-item.is
        (c.loop-conflict.invariant k)
        (numbered c.args.instance.now k T c.args.conflicts.now c.loop-conflict.conflict-index x
        c.deref.result.now c.lemma_limits.ensures.limits.counts.1.1
        (c.deref.ensures.value ∙ c.in_ok-periods.ensures) c.requires.exist c.loop-conflict-test.true
        c.conflict-item.is) in
        let most = sum_by-take-le (conflict_cost cost T) xs (i + 1) in
        omega (arith, c.requires.few k)

pub loop-conflict-preserved : goal.loop-conflict-preserved
loop-conflict-preserved c = λ k.
    let T = c.args.timetable.now in
    let x = c.conflict-item.result in
    c.add_costs.ensures k
    ∙ cost_more (table_cost c.args.instance.now k) T c.args.conflicts.now _ x _ _
    c.loop-conflict-test.true c.conflict-item.is (c.loop-conflict.invariant k)
    (numbered c.args.instance.now k T c.args.conflicts.now c.loop-conflict.conflict-index x
    c.deref.result.now c.lemma_limits.ensures.limits.counts.1.1
    (c.deref.ensures.value ∙ c.in_ok-periods.ensures) c.requires.exist c.loop-conflict-test.true
    c.conflict-item.is)
