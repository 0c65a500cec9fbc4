use Rattle.std.proofs.Common.{◌≡◌, take}
use Rattle.exam_model.specs.Pairs.{pairs_of}
use Rattle.exam_publish.specs.Entrants.{entrants}
use Rattle.exam_publish.proofs.entrants.entrants_of.Given as goal

-- the entrants of the exams so far
abbrev pub invariant-exams : goal.invariant-exams
invariant-exams l = l.found.items ≡ entrants (pairs_of (take l.exam l.enrolments)) l.timetable l.old
