use Rattle.std.proofs.Common.{◌≡◌, take, map, filter}
use Rattle.exam_model.specs.Pairs.{pairs_of}
use Rattle.exam_model.specs.Sitters.{pair_of}
use Rattle.exam_score.specs.Exchanges.{sits_among}
use Rattle.exam_score.proofs.concerned.sitters_by_exam.Given as goal

-- the sitters of the exams so far
abbrev pub invariant-loop-exam : goal.invariant-loop-exam
invariant-loop-exam l =
    map pair_of l.sitters.items
    ≡ filter (λ p. sits_among l.enrolments l.edited p.student)
    (pairs_of (take l.exam l.enrolments))
