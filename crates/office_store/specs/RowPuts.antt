-- The rows of a publication as parts of a transaction.
use Rattle.std.specs.Prelude.{ℕ}
use Rattle.office_tables.specs.declared.tables.placed.DeletePlacement.{DeletePlacement}
use Rattle.office_tables.specs.Tables.Placed.{InsertPlacement}
use Rattle.office_tables.specs.declared.tables.share_part.PartShareRow.{PartShareRow}
use Rattle.office_tables.specs.declared.tables.placed.PlacedRow.{PlacedRow}
use Rattle.office_tables.specs.declared.tables.seat.SeatRow as stored
use Rattle.office_tables.specs.declared.tables.share_student.StudentShareRow.{StudentShareRow}
use Rattle.office_tables.specs.declared.tables.seat.DeleteSeat.{DeleteSeat}
use Rattle.office_tables.specs.Tables.Seat.{InsertSeat}
use Rattle.office_tables.specs.declared.tables.share_student.DeleteStudentShare.{DeleteStudentShare}
use Rattle.office_tables.specs.Tables.SharePart.{InsertPartShare}
use Rattle.office_tables.specs.declared.tables.share_student.InsertStudentShare.{InsertStudentShare}

-- the delete of an exam's published place
abbrev pub deleted_placement : PlacedRow → DeletePlacement
deleted_placement row = record { exam = row.exam }

-- the insert of a published place
abbrev pub placement_put : PlacedRow → InsertPlacement
placement_put row = record { row = row }

-- the delete of a seat
abbrev pub seat_gone : stored.SeatRow → DeleteSeat
seat_gone row = record { student = row.student; exam = row.exam }

-- the insert of a seat
abbrev pub seat_put : stored.SeatRow → InsertSeat
seat_put row = record { row = row }

-- the delete of a candidate's share
abbrev pub deleted_share : ℕ → DeleteStudentShare
deleted_share student = record { student = student }

-- the insert of a candidate's share
abbrev pub student_share_put : StudentShareRow → InsertStudentShare
student_share_put row = record { row = row }

-- the insert of an exam's, a period's or a room's share
abbrev pub part_share_put : PartShareRow → InsertPartShare
part_share_put row = record { row = row }
