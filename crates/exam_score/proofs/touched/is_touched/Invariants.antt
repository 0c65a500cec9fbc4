use Rattle.std.proofs.Common.{◌≡◌, false, take}
use Rattle.exam_score.specs.Touched.{is_touched}
use Rattle.exam_score.proofs.touched.is_touched.Given as goal

-- none of the exams so far is placed there
abbrev pub invariant-loop-exam : goal.invariant-loop-exam
invariant-loop-exam l =
    is_touched (take l.exam-index l.touched.edited.now) l.touched.earlier.now l.touched.later.now
    l.place.period l.place.room ≡ false
