use Rattle.std.proofs.Common.{◌≡◌, ◌++◌, codes, string_bytes, take}
use Rattle.std.specs.List.{flat_map}
use Rattle.office_reports.specs.PlaceList.{place_line}
use Rattle.office_reports.proofs.place_list.places_report.Given as goal

abbrev pub invariant-loop-row : goal.invariant-loop-row
invariant-loop-row l =
    string_bytes l.text
    ≡ codes "period,room,penalty,rule,exam,other\n" ++ flat_map place_line (take l.row-index l.rows)
