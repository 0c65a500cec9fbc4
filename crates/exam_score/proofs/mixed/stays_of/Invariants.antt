use Rattle.std.proofs.Common.{◌≡◌, ◌≤◌, ℕ, length, count_by, All}
use Rattle.exam_model.specs.Sums.{count_below}
use Rattle.exam_score.specs.MixedDurations.{has_duration}
use Rattle.exam_score.specs.Stays.{is_stay, StayExists}
use Rattle.exam_score.proofs.mixed.stays_of.Given as goal

-- one stay for each placed exam before this one
abbrev pub invariant-loop-exam : goal.invariant-loop-exam
invariant-loop-exam l = record {
  counts : (p r m : ℕ) → count_by (is_stay p r m) l.stays.items
      ≡ count_below l.exam (has_duration l.instance l.timetable p r m);
  few : length l.stays.items ≤ l.exam;
  exist : All (StayExists l.instance) l.stays.items;
}
