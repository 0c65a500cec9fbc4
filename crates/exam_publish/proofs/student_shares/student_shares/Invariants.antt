use Rattle.std.proofs.Common.{length}
use Rattle.exam_publish.proofs.StudentLemmas.{IsShared}
use Rattle.exam_publish.proofs.student_shares.student_shares.Given as goal

abbrev pub invariant-students : goal.invariant-students
invariant-students l = IsShared l.instance l.rows l.shares.items l.rest

abbrev pub decreases-students : goal.decreases-students
decreases-students l = length l.rest
