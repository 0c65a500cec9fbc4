use Rattle.std.proofs.Common.{◌≡◌, inl, inr, ap, sym, ◌∙◌, arith}
use Rattle.std.specs.Prelude.{slice_get}
use Rattle.std.proofs.lemmas.Bool.{cases_eq}
use Rattle.std.proofs.lemmas.Option.{same_Some}
use Rattle.exam_score.proofs.ConflictCostLemmas.{is_reach}
use Rattle.exam_score.proofs.CostRowLemmas.{cost_row_found}
use Rattle.exam_score.proofs.conflict_sums.reach_of.Goals as goal

pub loop-period-preserved : goal.loop-period-preserved
loop-period-preserved c =
    let cost_rows = c.args.cost_rows.now in
    let n = c.loop-period.period in
    let here = c.index-cost_rows-period.result in
    let found = cost_row_found cost_rows n n here (λ i. n)
    (omega (arith, c.requires.table.count, c.loop-period-test.true, c.periods-period-end.ensures.count))
    c.index-cost_rows-period.is in
    λ p cost_row lt at. elim (cases_eq p n) [
      | inl last ↦
          (let same : here.first ≡ cost_row.first =
          ap (λ z. z.first)
          (same_Some here cost_row (sym found ∙ ap (slice_get cost_rows) (sym last) ∙ at)) in
          omega (
            arith,
            ap (λ z. z.first) c.index-cost_rows-period.is,
            c.saturating_sub-reach.ensures,
            c.saturating_sub-back.ensures,
          ))
      | inr other ↦
          (let old = c.loop-period.invariant p cost_row (omega arith) at in
          omega (arith, c.saturating_sub-reach.ensures))
    ]

pub returns : goal.returns
returns c =
    is_reach c.args.instance.now c.args.cost_rows.now c.loop-period.reach c.requires.table
    (λ p cost_row lt at. c.loop-period.invariant p cost_row
    (omega (arith, c.requires.table.count, c.loop-period-test.false, c.periods-period-end.ensures.count)) at)
