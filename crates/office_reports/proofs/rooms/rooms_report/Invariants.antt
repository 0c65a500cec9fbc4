use Rattle.std.proofs.Common.{◌≡◌, ◌++◌, codes, string_bytes}
use Rattle.std.specs.List.{flat_map, range_with_len}
use Rattle.office_reports.specs.Slots.{entry_lines}
use Rattle.office_reports.proofs.rooms.rooms_report.Given as goal

abbrev pub invariant-loop-period : goal.invariant-loop-period
invariant-loop-period l =
    string_bytes l.text
    ≡ codes "per room    used     cap  exams\n"
    ++ flat_map (entry_lines l.instance l.exams.items l.used.items) (range_with_len 0 l.period)
