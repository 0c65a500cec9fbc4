use Rattle.std.specs.Prelude.{◌==◌, All, Ok, filter, take}
use Rattle.std.specs.List.{AllByRecursion}
use Rattle.sqlite.specs.Held.{state}
use Rattle.sqlite.specs.State.{HasCleanDisk}
use Rattle.office_tables.specs.Readers.{LeavesFile}
use Rattle.office_tables.specs.Tables.{Tables}
use Rattle.office_tables.specs.TablesHeld.{HoldsSomeTables, HoldsTablesIn}
use Rattle.office_tables.specs.declared.version.Version.{Version}
use Rattle.office_tables.specs.declared.tables.batch.BatchCountsRow.{BatchCountsRow}
use Rattle.office_model.specs.declared.fault.StoreFault.{StoreFault}
use Rattle.office_records.specs.FoundBatches.{IsShort}
use Rattle.office_store.proofs.kept_bytes.check_bytes.Given as goal

abbrev pub invariant-batches : goal.invariant-batches
invariant-batches g l =
    let old = state g.S.Store l.fn.conn in
    let now = state g.S.Store l.conn in
    record {
      leaves : LeavesFile {X = Unit {0}} {E = StoreFault} (HoldsSomeTables old.now) g.S.Store
          l.fn.conn l.conn (Ok tt);
      short : HasCleanDisk now → (version : Version) (t : Tables) → HoldsTablesIn version old.now t
          → All (λ (row : BatchCountsRow).
          AllByRecursion IsShort (filter (λ b. b.no == row.no) t.batch))
          (take l.row-index l.batches);
    }
