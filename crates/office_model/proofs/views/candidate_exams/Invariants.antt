use Rattle.std.proofs.Common.{◌≡◌, ◌++◌, map, take}
use Rattle.office_model.proofs.views.candidate_exams.Given as goal

abbrev pub invariant-loop-row : goal.invariant-loop-row
invariant-loop-row l =
    l.exams.items ≡ l.enrolled ++ map (λ row. row.exam) (take l.row-index l.seats)
