use Rattle.std.proofs.Common.{codes, refl}
use Rattle.sqlite.specs.Held.{state}
use Rattle.sqlite.specs.Listing.{understood}
use Rattle.sqlite_tied.specs.Compute.{everything}
use Rattle.office_tables.specs.Tables.Batches.{batch_table, Batch}
use Rattle.office_tables.specs.Inserting.{IsInsert}
use Rattle.office_tables.specs.Tables.{all_columns}
use Rattle.office_tables.proofs.Frames.{all_shown, tables_held}
use Rattle.office_tables.proofs.InsertLemmas.{insert_sound, row_added}
use Rattle.office_tables.proofs.Inside.{changes_by}
use Rattle.office_tables.proofs.Rows.{batches}
use Rattle.office_tables.proofs.tables.batch.InsertBatchAlteration.apply.Goals as goal

means : IsInsert 9 batch_table.key 5 1
    (codes "INSERT INTO batch (no, bytes, added, dropped, unchanged) VALUES (?1, ?2, ?3, ?4, ?5)")
unfolding understood everything
means = record { is = refl; plain = (refl, refl); many = refl }

pub returns-clause-makes : goal.returns-clause-makes
returns-clause-makes g c clean inside =
    let old = state g.S.Store c.args.tx.now.conn.now in
    let new = state g.S.Store c.run.new.tx.conn.now in
    let it = c.args.self.now in
    let row : Batch = record {
      no = it.no;
      bytes = it.bytes.now;
      added = it.added;
      dropped = it.dropped;
      unchanged = it.unchanged;
    } in
    changes_by _ _ _ old new c.run.result
    (λ count t represents h. (
      tables_held new.now _ (row_added batches _ means old new row t.batch count (all_columns t)
          refl (all_shown old.now t represents) h),
      λ _. insert_sound means _ old new count represents.schema h,
    ))
    (rw (
      c.params-to_sql.ensures,
      c.params-to_sql-2.ensures,
      c.params-to_sql-3.ensures,
      c.params-to_sql-4.ensures,
      c.params-to_sql-5.ensures,
    ) at (c.run.ensures.ran clean inside))
