use Rattle.std.proofs.Common.{◌≡◌, ℕ, ◌<◌, length}
use Rattle.std.specs.Prelude.{slice_get}
use Rattle.exam_model.specs.Timetable.{place_of}
use Rattle.office_files.proofs.solution_reader.timetable_of.Given as goal

abbrev pub invariant-loop-exam : goal.invariant-loop-exam
invariant-loop-exam l = record {
  same : length l.timetable ≡ length l.places;
  placed : (k : ℕ) → k < l.exam → place_of l.timetable k ≡ slice_get l.places k;
}
