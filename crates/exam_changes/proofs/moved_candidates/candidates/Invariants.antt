use Rattle.std.proofs.Common.{◌≡◌, take}
use Rattle.std.specs.List.{flat_map}
use Rattle.exam_model.specs.Enrolments.{students}
use Rattle.exam_changes.proofs.moved_candidates.candidates.Given as goal

-- the students of the exams so far
abbrev pub invariant-moves : goal.invariant-moves
invariant-moves l =
    l.found.items ≡ flat_map (λ m. students l.enrolments m.exam) (take l.moved-index l.moves)
