use Rattle.std.proofs.Common.{◌≡◌, ◌++◌, codes, length, string_bytes, take}
use Rattle.std.specs.List.{flat_map}
use Rattle.office_reports.specs.Reports.{breach_line, number_line}
use Rattle.office_reports.proofs.reports.violation_report.Given as goal

abbrev pub invariant-loop-breach : goal.invariant-loop-breach
invariant-loop-breach l =
    string_bytes l.text
    ≡ number_line (codes "breaches") (length l.breaches)
    ++ flat_map breach_line (take l.breach-index l.breaches)
