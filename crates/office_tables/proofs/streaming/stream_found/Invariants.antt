use Rattle.std.proofs.Common.{◌≡◌, false, List, IsTrue}
use Rattle.sqlite_value.specs.Order.{Row}
use Rattle.sqlite.specs.State.{HasCleanDisk, IsUnchanged, Survives}
use Rattle.sqlite.specs.Held.{state}
use Rattle.sqlite.specs.Given.{HasGiven, IsPlain}
use Rattle.sqlite.specs.Listing.{understood}
use Rattle.sqlite.specs.Values.{bound}
use Rattle.office_tables.specs.Tables.{office_schema}
use Rattle.office_tables.specs.Readings.{IsGathered}
use Rattle.office_tables.proofs.streaming.stream_found.Given as goal

abbrev pub invariant-rows : goal.invariant-rows
invariant-rows g l =
    let old = state g.S.Store l.fn.conn in
    let now = state g.S.Store l.rows.conn.now in
    let plain = IsPlain (understood old.now.schema l.sql) in
    record {
      same : l.rows.conn.ghost_name ≡ l.initial.rows.conn.ghost_name;
      mode : old.in_transaction ≡ false → now.in_transaction ≡ false;
      survives : Survives old now (λ _. IsPlain (understood office_schema l.sql) → ⊥);
      opened : HasCleanDisk now → IsTrue old.is_open;
      given : HasCleanDisk now → plain
          → (given : List Row) × HasGiven g.S.Store l.sql (bound l.params) l.rows.conn.now given
          × IsUnchanged old now
          × IsGathered g.R.Record.fits g.R.Record.columns_of g.R.Record.WIDTH given l.found;
    }
