use Rattle.std.proofs.Common.{string_bytes}
use Rattle.std.specs.List.{flat_map}
use Rattle.exam_reasons.specs.Lists.{all_below, listed}
use Rattle.exam_reasons.specs.Reasons.{front_reason}
use Rattle.office_check.specs.Why.{Adds, front_line}
use Rattle.office_check.proofs.explaining.add_front.Given as goal

-- the lines so far
abbrev pub invariant-loop-exam : goal.invariant-loop-exam
invariant-loop-exam g l =
    Adds (g.W.Write.contents l.fn.writer) (g.W.Write.contents l.writer)
    (string_bytes l.fn.lines) (string_bytes l.lines)
    (flat_map front_line (all_below l.exam (λ e. listed (front_reason l.subject.instance.now
    l.subject.enrolments.now l.subject.timetable.now e))))
