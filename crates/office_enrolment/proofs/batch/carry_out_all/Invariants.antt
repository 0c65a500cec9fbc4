use Rattle.std.specs.Prelude.{◌≡◌, ◌++◌, drop, length}
use Rattle.exam_model.specs.Enrolments.{AreEnrolments}
use Rattle.office_model.specs.BatchLines.{enrolment_result, no_counts}
use Rattle.office_enrolment.specs.AfterBatch.{lines_with_effect, lines_in}
use Rattle.office_enrolment.proofs.batch.carry_out_all.Given as goal

abbrev pub invariant-lines : goal.invariant-lines
invariant-lines l = record {
  lines : enrolment_result l.changes l.enrolments no_counts
      ≡ enrolment_result (drop l.change-index l.changes) l.after l.counts;
  acting : lines_with_effect l.changes l.enrolments
      ≡ l.acting.items ++ lines_with_effect (drop l.change-index l.changes) l.after;
  kept : AreEnrolments l.after;
  exams : length l.after ≡ length l.enrolments;
  counted : lines_in l.counts ≡ l.change-index;
}
