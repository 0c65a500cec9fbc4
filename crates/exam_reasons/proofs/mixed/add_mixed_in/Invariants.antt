use Rattle.std.proofs.Common.{◌≡◌, ◌++◌}
use Rattle.exam_reasons.specs.Lists.{all_below, listed}
use Rattle.exam_reasons.specs.Reasons.{mixed_reason}
use Rattle.exam_reasons.proofs.mixed.add_mixed_in.Given as goal

-- those of the periods so far
abbrev pub invariant-loop-period : goal.invariant-loop-period
invariant-loop-period l =
    l.reasons.items ≡ l.fn.reasons.items ++ all_below l.period (λ p.
    listed (mixed_reason l.instance l.timetable l.room p))
