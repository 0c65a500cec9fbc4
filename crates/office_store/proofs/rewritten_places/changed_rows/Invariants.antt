use Rattle.std.proofs.Common.{◌≡◌, ◌++◌, drop}
use Rattle.office_store.specs.ChangedPlacements.{changed_rows}
use Rattle.office_store.proofs.rewritten_places.changed_rows.Given as goal

abbrev pub invariant-rows : goal.invariant-rows
invariant-rows l =
    l.changed.items ++ changed_rows (drop l.index l.rows) (drop l.index l.others)
    ≡ changed_rows l.rows l.others
