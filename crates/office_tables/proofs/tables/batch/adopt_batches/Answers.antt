use Rattle.exam_lists.proofs.Results.{IfOk_with_OnOk}
use Rattle.sqlite.specs.Held.{state}
use Rattle.sqlite.specs.State.{IsUnchanged}
use Rattle.office_tables.specs.Tables.Batches.{IsFoundBatches, counts_columns, FitsCounts}
use Rattle.office_tables.specs.Finders.{IsFound}
use Rattle.office_tables.proofs.BatchFound.{batches_found}
use Rattle.office_tables.proofs.ListTexts.{batch_lists, counts_shown}
use Rattle.office_tables.proofs.tables.batch.adopt_batches.Goals as goal

pub returns : goal.returns
returns g c version =
    let old = state g.S.Store c.args.conn.now in
    let new = state g.S.Store c.read_table.new.conn in
    let all = c.read_table.ensures.adopts version 14 counts_shown (batch_lists version) in
    record {
      found = λ clean tables. IfOk_with_OnOk c.read_table.result (IsUnchanged old new)
          (IsFound FitsCounts counts_columns counts_shown (old.now.trees 14))
          (IsFoundBatches old.now)
          (all.same clean tables) (all.found clean tables)
          (λ found same is. batches_found version old.now tables.schema
          (tables.live same.0.was_open).0 found is);
      same = all.same;
      looks = all.looks;
    }
