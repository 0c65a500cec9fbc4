use Rattle.std.proofs.Common.{◌≡◌, length, map}
use Rattle.std.specs.List.{range_with_len}
use Rattle.exam_score.specs.FrontLoad.{exam_front}
use Rattle.exam_publish.specs.Rows.{enrolled_in}
use Rattle.exam_publish.proofs.exam_shares.exam_shares.Given as goal

-- the exams so far
abbrev pub invariant-exams : goal.invariant-exams
invariant-exams l =
    l.shares.items
    ≡ map (exam_front l.instance (enrolled_in (length l.instance.exams) l.rows) l.timetable)
    (range_with_len 0 l.exam)
