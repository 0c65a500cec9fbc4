use Rattle.std.proofs.Common.{◌≡◌, ℕ, ◌<◌, ◌≤◌, ◌++◌}
use Rattle.std.specs.Prelude.{slice_index}
use Rattle.exam_model.specs.Conflicts.{AreShared, conflicts_with}
use Rattle.exam_model.specs.Enrolments.{Enrolled}
use Rattle.exam_model.proofs.conflicts.take_conflicts.Given as goal

-- the conflicts with the exams so far, whose counts are 0 again
abbrev pub invariant-loop-exam : goal.invariant-loop-exam
invariant-loop-exam l = record {
  found : (E : Enrolled) → AreShared E l.other l.fn.counts
      → l.found.items ≡ l.fn.found.items ++ conflicts_with E l.other l.exam;
  zero : (e : ℕ) → e < l.exam → slice_index l.counts e ≡ 0;
  kept : (e : ℕ) → l.exam ≤ e → slice_index l.counts e ≡ slice_index l.fn.counts e;
}
