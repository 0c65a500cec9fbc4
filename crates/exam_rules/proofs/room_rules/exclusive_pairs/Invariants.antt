use Rattle.std.proofs.Common.{ℕ, [], ◌&&◌, ◌==◌, not}
use Rattle.exam_rules.specs.Places.{in_one_place}
use Rattle.exam_rules.proofs.FindingLemmas.{AreFound}
use Rattle.exam_rules.proofs.room_rules.exclusive_pairs.Given as goal

abbrev pub invariant-exams : goal.invariant-exams
invariant-exams l =
    AreFound {X = ℕ} (λ e f k. k == e) (λ e f. not (e == f) && in_one_place l.timetable e f)
    [] l.exam-items l.exam-index l.found.items
