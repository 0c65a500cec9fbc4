use Rattle.std.proofs.Common.{◌≡◌, length}
use Rattle.exam_reasons.specs.Mixed.{AreCounted}
use Rattle.exam_reasons.proofs.mixed.exams_by_period.Given as goal

-- the exams so far are counted
abbrev pub invariant-loop-exam : goal.invariant-loop-exam
invariant-loop-exam l = record {
  long : length l.counts.items ≡ length l.instance.periods;
  counted : AreCounted l.timetable l.room l.exam l.counts.items;
}
