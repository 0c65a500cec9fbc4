use Rattle.std.proofs.Common.{◌≡◌, ◌≤◌, length, take}
use Rattle.exam_model.specs.Fits.{period_of}
use Rattle.exam_model.specs.Pairs.{pairs_of}
use Rattle.exam_score.specs.Regrouping.{periods_of}
use Rattle.exam_score.proofs.rescoring.periods_of.Given as goal

-- the periods of the exams before this one
abbrev pub invariant-loop-exam : goal.invariant-loop-exam
invariant-loop-exam l = record {
  periods : l.periods.items
      ≡ periods_of (pairs_of (take l.exam l.enrolments)) (period_of l.timetable) l.student;
  few : length l.periods.items ≤ l.exam;
}
