-- What the rows that are read mean for an office.
use Rattle.std.specs.Prelude.{List, [], Some, None, Result, Ok, Err, IsPermutation}
use Rattle.std.specs.Borrow.{Bor}
use Rattle.office_tables.specs.declared.tables.share_part.PartShareRow.{PartShareRow}
use Rattle.office_tables.specs.declared.tables.share_student.StudentShareRow.{StudentShareRow}
use Rattle.office_model.specs.Office.{OfficeState}
use Rattle.office_records.specs.SharesStored.{student_share_rows}
use Rattle.office_records.specs.PartShares.{part_share_rows}

-- the rows of the candidates' shares of an office's publication
abbrev pub student_rows_in : OfficeState → List StudentShareRow
student_rows_in None = []
student_rows_in (Some r) = student_share_rows r.session r.published

-- the share rows of exams, periods and rooms of an office; none if nothing is loaded
abbrev pub part_rows_in : OfficeState → List PartShareRow
part_rows_in None = []
part_rows_in (Some r) = part_share_rows r.session r.published

-- an office has these rows of shares
pub record AreShareRowsOf (office : OfficeState) (students : List StudentShareRow)
    (parts : List PartShareRow) : Type 0 where
  pub of_students : IsPermutation students (student_rows_in office)
  pub of_parts : IsPermutation parts (part_rows_in office)

-- the values of two references
abbrev pub pair_values : {X Y F : Type 0} → Result (Bor X × Bor Y) F → Result (X × Y) F
pair_values (Ok pair) = Ok (pair.0.now, pair.1.now)
pair_values (Err fault) = Err fault
