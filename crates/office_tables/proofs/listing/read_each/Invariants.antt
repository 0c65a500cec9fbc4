use Rattle.std.proofs.Common.{◌≡◌, map, take}
use Rattle.office_tables.specs.Records.{columns_from}
use Rattle.office_tables.proofs.listing.read_each.Given as goal

abbrev pub invariant-loop-row : goal.invariant-loop-row
invariant-loop-row g l =
    map g.R.Record.columns_of l.records.items
    ≡ map (columns_from 0 g.R.Record.WIDTH) (take l.row-index l.rows)
