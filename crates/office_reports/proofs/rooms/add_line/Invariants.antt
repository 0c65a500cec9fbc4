use Rattle.std.proofs.Common.{◌≡◌, ◌++◌, ◌∷◌, string_bytes, take}
use Rattle.office_reports.specs.Rooms.{right_aligned, spaced_numbers}
use Rattle.office_reports.proofs.rooms.add_line.Given as goal

abbrev pub invariant-loop-exam : goal.invariant-loop-exam
invariant-loop-exam l =
    string_bytes l.text
    ≡ string_bytes l.fn.text
    ++ (right_aligned 3 l.fn.place.period ++ right_aligned 5 l.fn.place.room ++ right_aligned 8 l.fn.used
    ++ right_aligned 8 l.fn.capacity ++ 32 ∷ spaced_numbers (take l.exam-index l.exams))
