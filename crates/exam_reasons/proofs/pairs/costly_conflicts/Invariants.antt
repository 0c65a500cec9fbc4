use Rattle.std.proofs.Common.{◌≡◌, filter, take}
use Rattle.exam_reasons.specs.Pairs.{is_costly}
use Rattle.exam_reasons.proofs.pairs.costly_conflicts.Given as goal

-- those of the conflicts so far
abbrev pub invariant-loop-conflict : goal.invariant-loop-conflict
invariant-loop-conflict l =
    l.pairs.items ≡ filter (is_costly l.instance l.timetable) (take l.conflict-index l.conflicts)
