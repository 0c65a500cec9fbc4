use Rattle.std.proofs.Common.{◌≡◌, ◌++◌, codes, string_bytes, take}
use Rattle.std.specs.List.{flat_map}
use Rattle.office_reports.specs.SeatList.{seat_line}
use Rattle.office_reports.proofs.seat_list.seats_report.Given as goal

abbrev pub invariant-loop-row : goal.invariant-loop-row
invariant-loop-row l =
    string_bytes l.text
    ≡ codes "student,exam,period,room,seat\n" ++ flat_map seat_line (take l.row-index l.seats)
