use Rattle.std.proofs.Common.{◌≡◌, false, take}
use Rattle.exam_score.specs.Exchanges.{sits_among}
use Rattle.exam_score.proofs.concerned.sits_among.Given as goal

-- the student sits none of the exams so far
abbrev pub invariant-loop-exam : goal.invariant-loop-exam
invariant-loop-exam l = sits_among l.enrolments (take l.exam-index l.exams) l.student ≡ false
