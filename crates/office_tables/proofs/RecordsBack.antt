-- Columns as the records that show them.
use Rattle.std.specs.Prelude.{ℕ, pos, List, []}
use Rattle.sqlite_value.specs.declared.value.Value.{Value}
use Rattle.sqlite_value.specs.declared.value.Value.TheVariants.{Int, Blob}
use Rattle.sqlite_value.specs.Order.{Row, column}
use Rattle.office_tables.specs.declared.tables.batch.BatchCountsRow.{BatchCountsRow}
use Rattle.office_tables.specs.declared.tables.owner.OwnerRow.{OwnerRow}
use Rattle.office_tables.specs.declared.tables.enrol.EnrolRow.{EnrolRow}
use Rattle.office_tables.specs.declared.tables.draft.DraftRow.{DraftRow}
use Rattle.office_tables.specs.declared.tables.slot.SlotRow.{SlotRow}
use Rattle.office_tables.specs.declared.tables.placed.PlacedRow.{PlacedRow}
use Rattle.office_tables.specs.declared.tables.seat.SeatRow.{SeatRow}
use Rattle.office_tables.specs.declared.tables.share_student.StudentShareRow.{StudentShareRow}
use Rattle.office_tables.specs.declared.tables.share_part.PartShareRow.{PartShareRow}
use Rattle.office_tables.specs.Tables.Batches.{Batch}

abbrev pub number : Value → ℕ
number (Int (pos n)) = n
number _ = 0

abbrev pub bytes_in : Value → List ℕ
bytes_in (Blob bytes) = bytes
bytes_in _ = []

abbrev pub owner_of : Row → OwnerRow
owner_of row = record {
  exam = number (column row 0);
  dept = number (column row 1);
}

abbrev pub enrol_of : Row → EnrolRow
enrol_of row = record {
  student = number (column row 0);
  exam = number (column row 1);
}

abbrev pub draft_of : Row → DraftRow
draft_of row = record {
  no = number (column row 1);
  in_row = number (column row 2);
  in_day = number (column row 3);
  spread = number (column row 4);
  mixed = number (column row 5);
  front = number (column row 6);
  period = number (column row 7);
  room = number (column row 8);
  night = number (column row 0);
}

abbrev pub slot_of : Row → SlotRow
slot_of row = record {
  draft = number (column row 0);
  exam = number (column row 1);
  period = number (column row 2);
  room = number (column row 3);
}

abbrev pub placement_of : Row → PlacedRow
placement_of row = record {
  exam = number (column row 0);
  period = number (column row 1);
  room = number (column row 2);
}

abbrev pub seat_of : Row → SeatRow
seat_of row = record {
  student = number (column row 0);
  exam = number (column row 1);
  period = number (column row 2);
  room = number (column row 3);
  seat = number (column row 4);
}

abbrev pub student_share_of : Row → StudentShareRow
student_share_of row = record {
  student = number (column row 1);
  in_row = number (column row 2);
  in_day = number (column row 3);
  spread = number (column row 4);
  night = number (column row 0);
}

abbrev pub part_share_of : Row → PartShareRow
part_share_of row = record {
  kind = number (column row 0);
  no = number (column row 1);
  penalty = number (column row 2);
  mixed = number (column row 3);
}

abbrev pub batch_of : Row → Batch
batch_of row = record {
  no = number (column row 0);
  bytes = bytes_in (column row 1);
  added = number (column row 2);
  dropped = number (column row 3);
  unchanged = number (column row 4);
}

abbrev pub counts_in : Row → BatchCountsRow
counts_in row = record {
  no = number (column row 0);
  added = number (column row 1);
  dropped = number (column row 2);
  unchanged = number (column row 3);
}
