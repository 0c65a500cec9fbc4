use Rattle.std.proofs.Common.{ℕ, ◌<◌, ◌≤◌}
use Rattle.std.specs.Prelude.{slice_index}
use Rattle.exam_model.proofs.roll.numbers_identify.Given as goal

abbrev pub invariant-loop-student : goal.invariant-loop-student
invariant-loop-student l = (k : ℕ) → k < l.student-index → slice_index l.students k ≤ 999999999
