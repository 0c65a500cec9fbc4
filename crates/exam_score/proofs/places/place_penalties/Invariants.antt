use Rattle.std.proofs.Common.{◌≡◌, ◌*◌, ◌≤◌}
use Rattle.exam_model.specs.Sums.{sum_below}
use Rattle.exam_model.specs.Timetable.{place_of}
use Rattle.exam_score.specs.Track.{exam_period, exam_room}
use Rattle.exam_score.proofs.places.place_penalties.Given as goal

-- the share of the exams before this one, and a bound on it
abbrev pub invariant-loop-exam : goal.invariant-loop-exam
invariant-loop-exam l = record {
  periods : l.sums.periods
      ≡ sum_below l.exam (λ e. exam_period l.instance (place_of l.timetable e));
  rooms : l.sums.rooms ≡ sum_below l.exam (λ e. exam_room l.instance (place_of l.timetable e));
  few_periods : l.sums.periods ≤ l.exam * 100000;
  few_rooms : l.sums.rooms ≤ l.exam * 100000;
}
