use Rattle.std.proofs.Common.{◌≡◌, IsTrue, drop}
use Rattle.sqlite.specs.Held.{state}
use Rattle.sqlite.specs.State.{HasCleanDisk}
use Rattle.office_tables.specs.Steps.{IsUncommitted}
use Rattle.office_tables.proofs.Creates.{Creating}
use Rattle.office_tables.proofs.creation.create.Given as goal

abbrev pub invariant-loop-text : goal.invariant-loop-text
invariant-loop-text g l =
    let old = state g.S.Store l.fn.tx.conn.now in
    let now = state g.S.Store l.tx.conn.now in
    record {
      same : l.tx.conn.ghost_name ≡ l.fn.tx.conn.ghost_name;
      makes : HasCleanDisk now → IsTrue l.fn.tx.conn.now.in_transaction
          → Creating l.fn.texts (drop l.text-index l.fn.texts) old now;
      within : IsUncommitted old now;
    }
