use Rattle.std.proofs.Common.{◌≡◌, ◌<◌, ◌≤◌, ℕ, false, length, get_or}
use Rattle.std.specs.Prelude.{nat_lt}
use Rattle.exam_model.specs.Sums.{count_below}
use Rattle.exam_score.specs.MixedDurations.{duration_count, has_duration}
use Rattle.exam_reasons.proofs.durations.durations_at.Given as goal

-- the durations of the exams before this one, marked and counted
abbrev pub invariant-loop-exam : goal.invariant-loop-exam
invariant-loop-exam l = record {
  long : length l.marked ≡ duration_count;
  marked : (m : ℕ) → m < duration_count → get_or l.marked m false
      ≡ nat_lt 0 (count_below l.exam (has_duration l.instance l.timetable l.place.period l.place.room m));
  count : l.count
      ≡ count_below duration_count
      (λ m. nat_lt 0
      (count_below l.exam (has_duration l.instance l.timetable l.place.period l.place.room m)));
  small : l.count ≤ l.exam;
}
