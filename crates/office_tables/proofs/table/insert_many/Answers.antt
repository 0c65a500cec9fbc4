use Rattle.std.proofs.Common.{◌≡◌, ◌∙◌, ap, flat_map, map, rules, subst, sym}
use Rattle.std.proofs.lemmas.List.{length-map}
use Rattle.sqlite_value.specs.declared.value.Value.TheVariants.{Int}
use Rattle.sqlite.specs.Held.{state}
use Rattle.office_tables.specs.Alterations.{IsWritten}
use Rattle.office_tables.proofs.InsertLemmas.{added, rows_put, rows_valued}
use Rattle.office_tables.proofs.Inside.{changes_by}
use Rattle.office_tables.proofs.table.insert_many.Goals as goal

pub returns-clause-makes : goal.returns-clause-makes
returns-clause-makes g c clean inside =
    let its = c.args.rows.now in
    let old = state g.S.Store c.args.tx.now.conn.now in
    let new = state g.S.Store c.run_with.new.tx.conn.now in
    let it = g.R.Table.shape in
    let about = c.inserts.ensures in
    let params : map Int c.as_flattened.result.now ≡ flat_map it.columns_of (map (λ x. x.row) its) =
    ap (map Int) c.as_flattened.ensures.value
    ∙ rows_valued _ _ (λ x. x.row) it.columns_of its c.from_fn-values.result g.row.N
    (λ i y q call. search rules) c.requires.count c.from_fn-values.ensures.items in
    changes_by _ _ _ old new c.run_with.result
    (λ count t represents h. subst (λ all. IsWritten all old.now new.now)
    (sym (rows_put it g.row.W g.row.N _ _ about (λ x. x.row) its t))
    (added it g.row.W g.row.N _ _ about g.row.N _ about.several old new (map (λ x. x.row) its)
    (length-map its (λ x. x.row) ∙ c.requires.count) count t represents h))
    (rw params at (c.run_with.ensures.ran clean inside))
