use Rattle.exam_places.specs.PeriodTable.{IsPeriodTable}
use Rattle.exam_places.proofs.period_table.period_entries.Given as goal

abbrev pub invariant-exams : goal.invariant-exams
invariant-exams l = IsPeriodTable l.unplaced l.number l.table.items
