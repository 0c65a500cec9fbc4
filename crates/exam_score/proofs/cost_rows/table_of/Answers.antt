use Rattle.std.proofs.Common.{◌≡◌, ◌+◌, ◌++◌, ◌∷◌, [], ℕ, Some, length, sym, ◌∙◌, arith, subst, length-append}
use Rattle.std.specs.Prelude.{slice_get}
use Rattle.exam_score.specs.CostRows.{IsCostRow, IsFirstCost}
use Rattle.exam_score.specs.declared.cost_rows.CostRow.{CostRow}
use Rattle.exam_score.proofs.CostRowLemmas.{table_more}
use Rattle.exam_score.proofs.cost_rows.table_of.Goals as goal

pub loop-period-preserved : goal.loop-period-preserved
loop-period-preserved c =
    let I = c.args.instance.now in
    let cost_rows = c.loop-period.cost_rows.items in
    let new : CostRow = record { costs = c.in_ok-costs.costs; first = c.first_cost-first.result } in
    let here : c.new-period.result ≡ length cost_rows =
    c.new-period.ensures ∙ sym c.loop-period.invariant.count in
    let is : IsCostRow I (length cost_rows) new.costs.items =
    subst (λ n. IsCostRow I n new.costs.items) here c.in_ok-costs.ensures in
    let first : IsFirstCost I (length cost_rows) new.first =
    subst (λ n. IsFirstCost I n new.first) here c.first_cost-first.ensures in
    let more : record { count : length (cost_rows ++ new ∷ []) ≡ c.loop-period.period + 1; each : (p : ℕ) (cost_row : CostRow) → slice_get (cost_rows ++ new ∷ []) p ≡ Some cost_row → IsCostRow I p cost_row.costs.items; first : (p : ℕ) (cost_row : CostRow) → slice_get (cost_rows ++ new ∷ []) p ≡ Some cost_row → IsFirstCost I p cost_row.first }
    = record {
      count = omega (arith, length-append cost_rows (new ∷ []), c.loop-period.invariant.count);
      each = table_more (λ p cost_row. IsCostRow I p cost_row.costs.items) cost_rows new is
          c.loop-period.invariant.each;
      first = table_more (λ p cost_row. IsFirstCost I p cost_row.first) cost_rows new first
          c.loop-period.invariant.first;
    } in
    rw c.in_ok-push.ensures.items more
