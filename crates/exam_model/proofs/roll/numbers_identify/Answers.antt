use Rattle.std.proofs.Common.{arith}
use Rattle.exam_model.proofs.RollLemmas.{are_numbers}
use Rattle.exam_model.proofs.roll.numbers_identify.Goals as goal

pub returns : goal.returns
returns c =
    are_numbers c.args.students.now (λ k lt. c.loop-student.invariant k (omega arith))
