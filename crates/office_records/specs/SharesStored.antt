-- The rows of the shares of a publication, and those that a republication rewrites.
use Rattle.std.specs.Prelude.{ℕ, ◌<◌, ◌≤◌, ◌^◌, not, List, [], ◌++◌, map, filter, Option, Some, None, IsPermutation}
use Rattle.exam_terms.specs.declared.limits.TheConstants.{MAX_STUDENT}
use Rattle.exam_model.specs.Enrolments.{has_number}
use Rattle.exam_model.specs.Instance.{Session}
use Rattle.exam_score.specs.Penalty.{PersonalPenalty, personal_total}
use Rattle.exam_publish.specs.Changed.{changed_students}
use Rattle.exam_publish.specs.Shares.{Sharing, student_shares}
use Rattle.exam_publish.specs.declared.seat_row.SeatRow.{SeatRow}
use Rattle.office_tables.specs.declared.tables.share_part.PartShareRow.{PartShareRow}
use Rattle.office_tables.specs.declared.tables.share_student.StudentShareRow.{StudentShareRow}
use Rattle.office_model.specs.Office.{Publication}
use Rattle.office_records.specs.PartShares.{part_rows, part_share_rows}

-- ---- the rows of shares

-- a candidate's share
abbrev pub student_share_row : ℕ × PersonalPenalty → StudentShareRow
student_share_row share = record {
  student = share.0;
  in_row = share.1.row;
  in_day = share.1.day;
  spread = share.1.spread;
  night = share.1.night;
}

-- a number that a student can have, and a total below the limit
pub record IsShare (share : ℕ × PersonalPenalty) : Type 0 where
  pub student : share.0 ≤ MAX_STUDENT
  pub total : personal_total share.1 < 2 ^ 62

-- each candidate with seats has a share
abbrev pub student_share_rows : Session → Option Publication → List StudentShareRow
student_share_rows I None = []
student_share_rows I (Some p) = map student_share_row (student_shares I p.rows)

-- ---- rows that were found

-- these rows are those of these shares
pub record AreSharesOf (students : List StudentShareRow) (parts : List PartShareRow)
    (shares : Sharing) : Type 0 where
  pub of_students : IsPermutation students (map student_share_row shares.students)
  pub of_parts : IsPermutation parts (part_rows shares)

-- these rows are the shares of the publication; none if nothing is published
pub record AreShared (I : Session) (published : Option Publication)
    (students : List StudentShareRow) (parts : List PartShareRow) : Type 0 where
  pub of_students : IsPermutation students (student_share_rows I published)
  pub of_parts : IsPermutation parts (part_share_rows I published)

-- ---- a republication

-- a seat row without its room and seat
abbrev pub timed : SeatRow → SeatRow
timed row = record row { room = 0; seat = 0 }

-- the candidates whose exams or periods differ; nothing else can change a candidate's share
abbrev pub retimed_students : List SeatRow → List SeatRow → List ℕ
retimed_students old new = changed_students (map timed old) (map timed new)

-- the rows of these candidates
abbrev pub share_rows_of : List ℕ → List StudentShareRow → List StudentShareRow
share_rows_of students rows = filter (λ row. has_number students row.student) rows

-- the rows of all but these candidates
abbrev pub share_rows_without : List ℕ → List StudentShareRow → List StudentShareRow
share_rows_without students rows = filter (λ row. not (has_number students row.student)) rows

-- new rows of these candidates in place of those that are stored
abbrev pub student_shares_put : List ℕ → List StudentShareRow → List StudentShareRow
    → List StudentShareRow
student_shares_put students new stored = new ++ share_rows_without students stored
