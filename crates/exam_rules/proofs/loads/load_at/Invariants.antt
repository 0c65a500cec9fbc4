use Rattle.std.proofs.Common.{◌≡◌, ◌*◌, ◌^◌, ◌≤◌}
use Rattle.exam_rules.specs.Places.{load_below}
use Rattle.exam_rules.proofs.loads.load_at.Given as goal

abbrev pub invariant-exams : goal.invariant-exams
invariant-exams l = record {
  far : l.load ≡ load_below l.enrolments l.timetable l.place l.exam;
  small : l.load ≤ l.exam * 2 ^ 32;
}
