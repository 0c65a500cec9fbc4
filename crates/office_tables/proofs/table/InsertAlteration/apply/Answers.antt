use Rattle.sqlite.specs.Held.{state}
use Rattle.office_tables.proofs.InsertLemmas.{added_one}
use Rattle.office_tables.proofs.Inside.{changes_by}
use Rattle.office_tables.proofs.table.InsertAlteration.apply.Goals as goal

pub returns-clause-makes : goal.returns-clause-makes
returns-clause-makes g c clean inside =
    let old = state g.S.Store c.args.tx.now.conn.now in
    let new = state g.S.Store c.run_with.new.tx.conn.now in
    changes_by _ _ _ old new c.run_with.result
    (added_one g.R.Table.shape g.row.W g.row.N _ _ c.inserts.ensures old new c.args.self.now.row)
    (rw (c.values.ensures) at (c.run_with.ensures.ran clean inside))
