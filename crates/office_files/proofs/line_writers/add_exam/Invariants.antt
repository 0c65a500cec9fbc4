use Rattle.std.proofs.Common.{◌≡◌, ◌++◌, ◌∷◌, string_bytes, take}
use Rattle.std.specs.Prelude.{decimal}
use Rattle.std.specs.List.{flat_map}
use Rattle.office_files.proofs.line_writers.add_exam.Given as goal

abbrev pub invariant-loop-student : goal.invariant-loop-student
invariant-loop-student l = string_bytes l.text
    ≡ string_bytes l.fn.text ++ decimal l.fn.exam.minutes
    ++ flat_map (λ s. 44 ∷ 32 ∷ decimal s) (take l.student-index l.students)
