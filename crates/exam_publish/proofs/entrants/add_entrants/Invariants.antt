use Rattle.std.proofs.Common.{◌≡◌, ℕ, ◌++◌, map, take}
use Rattle.exam_publish.specs.Entrants.{entrant}
use Rattle.exam_publish.proofs.entrants.add_entrants.Given as goal

-- the students so far
abbrev pub invariant-students : goal.invariant-students
invariant-students l =
    l.found.items ≡ l.initial.found.items
    ++ map (λ (s : ℕ). entrant l.old (record { exam = l.exam; student = s }) l.place)
    (take l.student-index l.students)
