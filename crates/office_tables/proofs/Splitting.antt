-- The rows of drafts and of students' shares are in two tables.
use Rattle.std.proofs.Common.{refl}
use Rattle.office_tables.specs.declared.tables.draft.DraftRow.{DraftRow}
use Rattle.office_tables.specs.declared.tables.share_student.StudentShareRow.{StudentShareRow}
use Rattle.office_tables.specs.Tables.Draft.{bare_draft_columns, draft_columns, night_draft_columns, FitsDraft}
use Rattle.office_tables.specs.Joining.{NightSplit}
use Rattle.office_tables.specs.Tables.ShareStudent.{bare_share_columns, night_share_columns, share_student_columns, FitsStudentShare}

pub draft_splits : NightSplit FitsDraft bare_draft_columns draft_columns night_draft_columns
    (λ (r : DraftRow). r.no) (λ (r : DraftRow). r.night)
draft_splits = record {
  shown_is = λ r. refl;
  number_is = λ r. refl;
  nights_are = λ r. refl;
  narrow = λ r fits. fits;
  bare = λ r. record r { night = 0 };
  bare_same = λ r. refl;
  bare_night = λ r. refl;
  bare_fits = λ r fits. fits;
}

pub share_student_splits : NightSplit FitsStudentShare bare_share_columns share_student_columns
    night_share_columns (λ (r : StudentShareRow). r.student) (λ (r : StudentShareRow). r.night)
share_student_splits = record {
  shown_is = λ r. refl;
  number_is = λ r. refl;
  nights_are = λ r. refl;
  narrow = λ r fits. fits;
  bare = λ r. record r { night = 0 };
  bare_same = λ r. refl;
  bare_night = λ r. refl;
  bare_fits = λ r fits. fits;
}
