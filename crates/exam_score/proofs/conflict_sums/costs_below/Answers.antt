use Rattle.std.proofs.Common.{arith, sym}
use Rattle.exam_score.proofs.CostRowLemmas.{cost_row_found}
use Rattle.exam_score.proofs.conflict_sums.costs_below.Goals as goal

pub returns-then-get-cost_row : goal.returns-then-get-cost_row
returns-then-get-cost_row c =
    let cost_row = c.in-Some.cost_row.now in
    let found = c.in-Some.ensures.lookup in
    let here = cost_row_found c.args.cost_rows.now _ c.args.period cost_row c.get.ensures found.3.0 found.1 in
    sym ((c.requires.table.first c.args.period cost_row here).free.each c.args.earlier
    (omega (arith, c.if-get-cost_row.true, c.get-3.ensures)))
