use Rattle.std.proofs.Common.{◌≡◌, filter}
use Rattle.exam_model.specs.Conflicts.{conflicts_below}
use Rattle.exam_reasons.specs.Pairs.{is_costly}
use Rattle.exam_reasons.proofs.pairs.costly_exams.Given as goal

-- the pairs of the exams so far
abbrev pub invariant-loop-other : goal.invariant-loop-other
invariant-loop-other l =
    l.pairs.items ≡ filter (is_costly l.instance l.timetable) (conflicts_below l.enrolments l.other)
