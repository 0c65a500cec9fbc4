use Rattle.std.proofs.Common.{◌≡◌, take}
use Rattle.office_records.specs.Publications.{placed_from}
use Rattle.office_records.proofs.publication.placement_rows.Given as goal

abbrev pub invariant-exams : goal.invariant-exams
invariant-exams l = l.rows.items ≡ placed_from 0 (take l.exam l.timetable)
