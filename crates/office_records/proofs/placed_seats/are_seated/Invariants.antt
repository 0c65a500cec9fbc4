use Rattle.std.specs.Prelude.{All, take}
use Rattle.office_records.specs.FoundPublications.{IsSeatedRow}
use Rattle.office_records.proofs.placed_seats.are_seated.Given as goal

abbrev pub invariant-rows : goal.invariant-rows
invariant-rows l = All (IsSeatedRow l.instance l.timetable) (take l.row-index l.rows)
