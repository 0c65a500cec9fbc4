use Rattle.std.proofs.Common.{take, map}
use Rattle.exam_model.specs.Sitters.{pair_of}
use Rattle.exam_score.specs.Folds.{IsFoldOf, RepresentsPairs}
use Rattle.exam_score.proofs.changes.fold_sitters.Given as goal

-- the sitters so far are folded
abbrev pub invariant-loop-sitter : goal.invariant-loop-sitter
invariant-loop-sitter l = record {
  represents : RepresentsPairs l.fold (map pair_of (take l.sitter-index l.sitters));
  is : IsFoldOf l.fold l.instance l.old l.new l.edited;
}
