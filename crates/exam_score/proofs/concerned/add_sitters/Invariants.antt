use Rattle.std.proofs.Common.{◌≡◌, ◌++◌, take, map, filter}
use Rattle.exam_model.specs.Enrolments.{students}
use Rattle.exam_model.specs.Pairs.{pairs_at}
use Rattle.exam_model.specs.Sitters.{pair_of}
use Rattle.exam_score.specs.Exchanges.{sits_among}
use Rattle.exam_score.proofs.concerned.add_sitters.Given as goal

-- the sitters of the students so far
abbrev pub invariant-loop-student : goal.invariant-loop-student
invariant-loop-student l =
    map pair_of l.sitters.items ≡ map pair_of l.fn.sitters.items
    ++ filter (λ p. sits_among l.enrolments l.edited p.student)
    (pairs_at l.exam (take l.student-index (students l.enrolments l.exam)))
