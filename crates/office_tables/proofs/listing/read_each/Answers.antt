use Rattle.std.proofs.lemmas.Grind.{common_steps}
use Rattle.std.proofs.Common.{◌≢◌, ◌≤◌, length, subst, arith}
use Rattle.std.proofs.lemmas.List.{take_all}
use Rattle.office_tables.specs.Records.{columns_from}
use Rattle.office_tables.proofs.ListedTables.{unread}
use Rattle.office_tables.proofs.RecordLemmas.{one_read}
use Rattle.office_tables.proofs.listing.read_each.Goals as goal

pub returns-in-Err : goal.returns-in-Err
returns-in-Err g c wide made fit same =
    let fits = g.R.Record.fits in
    let row_of = g.R.Record.columns_of in
    let width = g.R.Record.WIDTH in
    let known = c.in-Err.ensures.refused (λ is. let yes' = c.is_out_of_memory.ensures.1 is in
    let no' = c.if-is_out_of_memory.false in cc) in
    let refused = subst (λ r. width ≤ length r → (x : _) → fits x
    → row_of x ≢ columns_from 0 width r) c.row-item.is known in
    unread fits row_of width c.args.rows.now c.loop-row.row-index c.row-item.result
    c.loop-row-test.true refused wide made fit same

pub loop-row-preserved : goal.loop-row-preserved
loop-row-preserved g c = grind (arith, common_steps, one_read)

pub returns : goal.returns
returns g c = grind (arith, common_steps, take_all)
