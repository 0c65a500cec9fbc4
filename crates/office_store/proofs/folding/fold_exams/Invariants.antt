use Rattle.std.proofs.Common.{◌++◌, List, Some, take}
use Rattle.exam_model.specs.Pairs.{Pair}
use Rattle.exam_score.specs.Folds.{IsFoldOf, RepresentsPairs, pairs_sat}
use Rattle.office_store.proofs.folding.fold_exams.Given as goal

-- the student's exams so far are taken
abbrev pub invariant-loop-exam : goal.invariant-loop-exam
invariant-loop-exam l = record {
  represents : (pairs : List Pair) → RepresentsPairs l.fn.fold pairs
      → RepresentsPairs l.fold (pairs ++ pairs_sat (Some l.student) (take l.exam-index l.exams));
  of : IsFoldOf l.fold l.fn.fold.instance l.fn.fold.earlier l.fn.fold.later l.fn.fold.edited;
}
