use Rattle.std.proofs.Common.{◌≡◌, ℕ, true, take}
use Rattle.exam_model.specs.Enrolments.{has, has_number}
use Rattle.exam_rules.specs.Marks.{marks_of}
use Rattle.exam_rules.proofs.period_rules.unmark.Given as goal

abbrev pub invariant-exams : goal.invariant-exams
invariant-exams l =
    (e s : ℕ) → has_number (take l.exam-index l.group) e ≡ true → has l.enrolments s e ≡ true
    → marks_of l.marks s ≡ 0
