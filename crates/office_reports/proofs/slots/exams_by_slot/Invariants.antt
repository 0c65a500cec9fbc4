use Rattle.std.proofs.Common.{[]}
use Rattle.office_reports.specs.Slots.{IsTable, exams_below}
use Rattle.office_reports.proofs.slots.exams_by_slot.Given as goal

abbrev pub invariant-exams : goal.invariant-exams
invariant-exams l = IsTable l.instance [] (exams_below l.timetable l.number) l.lists.items
