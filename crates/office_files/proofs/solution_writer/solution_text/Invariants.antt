use Rattle.std.proofs.Common.{◌≡◌, string_bytes, take}
use Rattle.office_files.specs.CanonicalSolution.{canonical_solution}
use Rattle.office_files.proofs.solution_writer.solution_text.Given as goal

abbrev pub invariant-loop-exam : goal.invariant-loop-exam
invariant-loop-exam l = string_bytes l.text ≡ canonical_solution (take l.exam l.timetable)
