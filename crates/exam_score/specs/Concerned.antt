-- Enrolments as pairs, and their order.
use Rattle.exam_model.specs.Sitters.{pair_of}
use Rattle.exam_model.specs.declared.sitter.Sitter.{Sitter}
use Rattle.exam_score.specs.Folds.{ComesEarlier}

-- x has a smaller student than y, or the same student and a smaller exam
abbrev pub IsSooner : Sitter → Sitter → Type 0
IsSooner x y = ComesEarlier (pair_of x) (pair_of y)
