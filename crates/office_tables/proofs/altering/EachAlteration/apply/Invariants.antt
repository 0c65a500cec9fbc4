use Rattle.std.proofs.Common.{◌≡◌, IsTrue, take}
use Rattle.sqlite.specs.Held.{state}
use Rattle.sqlite.specs.State.{HasCleanDisk}
use Rattle.office_tables.specs.Alterations.{after_all}
use Rattle.office_tables.specs.Steps.{TablesBecome, IsUncommitted}
use Rattle.office_tables.proofs.altering.EachAlteration.apply.Given as goal

abbrev pub invariant-loop-alteration : goal.invariant-loop-alteration
invariant-loop-alteration g l =
    let old = state g.S.Store l.fn.tx.conn.now in
    let now = state g.S.Store l.tx.conn.now in
    record {
      same : l.tx.conn.ghost_name ≡ l.fn.tx.conn.ghost_name;
      makes : HasCleanDisk now → IsTrue l.fn.tx.conn.now.in_transaction
          → TablesBecome (after_all g.A.Alteration.alteration
          (take l.alteration-index l.fn.self.alterations.now)) old now;
      within : IsUncommitted old now;
    }
