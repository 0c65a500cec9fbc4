use Rattle.std.proofs.Common.{◌≡◌, length}
use Rattle.exam_reasons.specs.Lists.{all_below, listed}
use Rattle.exam_reasons.specs.Reasons.{mixed_reason}
use Rattle.exam_reasons.proofs.mixed.mixed_reasons.Given as goal

-- those of the rooms so far
abbrev pub invariant-loop-room : goal.invariant-loop-room
invariant-loop-room l =
    l.reasons.items ≡ all_below l.room (λ r. all_below (length l.instance.periods) (λ p.
    listed (mixed_reason l.instance l.timetable r p)))
