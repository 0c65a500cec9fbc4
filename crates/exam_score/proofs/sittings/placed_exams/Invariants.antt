use Rattle.std.proofs.Common.{◌≡◌, ◌<◌, ℕ, length, sum_by, All}
use Rattle.exam_model.specs.Fits.{period_of}
use Rattle.exam_model.specs.Sums.{sum_below}
use Rattle.exam_score.specs.Tallies.{if_placed}
use Rattle.exam_score.proofs.sittings.placed_exams.Given as goal

-- the sittings of the exams before this one
abbrev pub invariant-loop-exam : goal.invariant-loop-exam
invariant-loop-exam l = record {
  all : (g : ℕ → ℕ → ℕ) → sum_by (λ x. g x.exam x.period) l.sittings.items
      ≡ sum_below l.exam (λ e. if_placed (g e) (period_of l.timetable e));
  exist : All (λ x. x.exam < length l.timetable) l.sittings.items;
}
