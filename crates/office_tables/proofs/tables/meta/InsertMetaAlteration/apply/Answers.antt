use Rattle.sqlite.specs.Held.{state}
use Rattle.office_tables.proofs.Inside.{changes_by}
use Rattle.office_tables.proofs.MetaLemmas.{added}
use Rattle.office_tables.proofs.tables.meta.InsertMetaAlteration.apply.Goals as goal

pub returns-clause-makes : goal.returns-clause-makes
returns-clause-makes g c clean inside =
    let old = state g.S.Store c.args.tx.now.conn.now in
    let new = state g.S.Store c.run.new.tx.conn.now in
    changes_by _ _ _ old new c.run.result
    (added old new
    (record { published = c.args.self.now.published; instance = c.args.self.now.instance.now }))
    (rw (c.params-to_sql.ensures, c.params-to_sql-2.ensures, c.flag_of.ensures) at (c.run.ensures.ran
    clean inside))
