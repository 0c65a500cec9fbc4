use Rattle.std.specs.Prelude.{take}
use Rattle.office_records.specs.Found.{AreSlots}
use Rattle.office_records.proofs.timetable.timetable_of.Given as goal

abbrev pub invariant-loop-row : goal.invariant-loop-row
invariant-loop-row l = AreSlots l.instance l.draft (take l.row-index l.slots) l.timetable
