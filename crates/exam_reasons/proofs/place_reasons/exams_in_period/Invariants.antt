use Rattle.std.proofs.Common.{◌≡◌, ◌≤◌}
use Rattle.exam_model.specs.Sums.{count_below}
use Rattle.exam_model.specs.Timetable.{place_of}
use Rattle.exam_reasons.specs.Reasons.{is_in_period}
use Rattle.exam_reasons.proofs.place_reasons.exams_in_period.Given as goal

-- how many exams before this one are there
abbrev pub invariant-loop-exam : goal.invariant-loop-exam
invariant-loop-exam l = record {
  count : l.count ≡ count_below l.exam (λ e. is_in_period l.period (place_of l.timetable e));
  few : l.count ≤ l.exam;
}
