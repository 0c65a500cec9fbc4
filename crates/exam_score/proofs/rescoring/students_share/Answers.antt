use Rattle.std.proofs.Common.{arith}
use Rattle.exam_score.proofs.rescoring.students_share.Goals as goal

pub of-requires : goal.of-requires
of-requires c = omega (arith, c.in_ok-pairs.ensures.small, c.in_ok-front.ensures.small)
