use Rattle.std.proofs.Common.{rules}
use Rattle.office_tables.proofs.InsertLemmas.{one_fits}
use Rattle.office_tables.proofs.table.fn.insert_many.from_fn.Goals as goal

pub values-requires : goal.values-requires
values-requires g c =
    let fits = one_fits g.R.Table.limited g.R.Table.fits (λ it. it.row) c.captures.rows.now
    c.requires.1 c.args.i c.index-rows-i.result c.requires.0 in search rules
