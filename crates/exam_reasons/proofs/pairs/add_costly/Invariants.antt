use Rattle.std.proofs.Common.{◌≡◌, ◌++◌, filter}
use Rattle.exam_model.specs.Conflicts.{conflicts_with}
use Rattle.exam_reasons.specs.Pairs.{is_costly}
use Rattle.exam_reasons.proofs.pairs.add_costly.Given as goal

-- the pairs with the exams so far
abbrev pub invariant-loop-exam : goal.invariant-loop-exam
invariant-loop-exam l =
    l.pairs.items ≡ l.fn.pairs.items
    ++ filter (is_costly l.instance l.timetable) (conflicts_with l.enrolments l.other l.exam)
