use Rattle.std.proofs.Common.{◌<◌, ◌%◌, ap, arith}
use Rattle.exam_score.proofs.tallies.bucket_of_student.Goals as goal

pub returns-clause-exists : goal.returns-clause-exists
returns-clause-exists c = omega (arith, c.requires.some)

pub overflow_cast-result : goal.overflow_cast-result
overflow_cast-result c =
    let rest : c.get.result % c.args.buckets < c.args.buckets = omega (arith, c.requires.some) in
    omega (arith, c.ranges.buckets)

pub returns-clause-bucket : goal.returns-clause-bucket
returns-clause-bucket c = ap (λ s. s % c.args.buckets) c.get.ensures.number
