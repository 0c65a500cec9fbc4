use Rattle.std.proofs.Common.{string_bytes, take}
use Rattle.std.specs.List.{flat_map}
use Rattle.exam_reasons.specs.Lists.{listed}
use Rattle.exam_reasons.specs.Reasons.{pair_reason}
use Rattle.office_check.specs.Why.{Adds, pair_line}
use Rattle.office_check.proofs.explaining.add_pairs.Given as goal

-- the lines so far
abbrev pub invariant-loop-pair : goal.invariant-loop-pair
invariant-loop-pair g l =
    Adds (g.W.Write.contents l.fn.writer) (g.W.Write.contents l.writer)
    (string_bytes l.fn.lines) (string_bytes l.lines)
    (flat_map (λ c. flat_map (pair_line l.kind) (listed (pair_reason l.subject.instance.now
    l.subject.enrolments.now l.subject.timetable.now l.kind c.exam c.other)))
    (take l.pair-index l.subject.pairs.now))
