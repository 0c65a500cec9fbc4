use Rattle.std.proofs.Common.{◌≡◌, drop}
use Rattle.exam_model.specs.Enrolments.{AreEnrolments}
use Rattle.office_files.proofs.ExamLineSteps.{IsSoFar}
use Rattle.office_files.proofs.exam_lines.exam_lines.Given as goal

abbrev pub invariant-lines : goal.invariant-lines
invariant-lines l = record {
  left : l.lines ≡ drop l.exam l.fn.lines;
  kept : AreEnrolments l.enrolments;
  so_far : IsSoFar l.fn.lines l.lines l.count l.exam l.exams.items l.enrolments;
}
