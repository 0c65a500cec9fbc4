-- Rows have the places of their exams, so their exams and places exist.
use Rattle.std.proofs.lemmas.Grind.{common_steps}
use Rattle.std.specs.List.{AllByRecursion}
use Rattle.std.proofs.Common.{◌<◌, length, List, arith}
use Rattle.std.proofs.lemmas.Bool.{cases_lt}
use Rattle.std.proofs.lemmas.List.{get_or_past}
use Rattle.std.proofs.lemmas.List.Elements.{recursion_from_All}
use Rattle.std.proofs.lemmas.Option.{none-some}
use Rattle.exam_lists.proofs.Each.{each_weaker}
use Rattle.exam_model.specs.Instance.{Session}
use Rattle.exam_model.specs.Timetable.{Placing}
use Rattle.exam_publish.specs.declared.seat_row.SeatRow.{SeatRow}
use Rattle.exam_publish.specs.Rows.{IsAtExam, ArePublishedRows}

pub row_exists : (T : Placing) (row : SeatRow) → IsAtExam T row → row.exam < length T
row_exists T row at = grind (arith, common_steps, cases_lt, none-some, get_or_past)

pub rows_exist : (I : Session) (rows : List SeatRow) (T : Placing) → ArePublishedRows I rows T
    → AllByRecursion (λ row. row.exam < length I.exams) rows
rows_exist I rows T are = grind (arith, common_steps, each_weaker, row_exists, recursion_from_All)
