use Rattle.office_tables.specs.Stored.{shown_by}
use Rattle.office_tables.proofs.listing.adopt.Goals as goal

pub returns : goal.returns
returns g c version =
    let table = g.R.Listed.table in
    c.read_table.ensures.adopts version table.tree (shown_by table.key) (c.select_all_text.ensures version)
