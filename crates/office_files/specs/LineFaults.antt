-- The fault of each line of an instance file, if no line before it has one.
use Rattle.std.specs.Prelude.{ℕ, zero, suc, ◌+◌, ◌==◌, if◌then◌else◌, List, [], ◌∷◌}
use Rattle.std.specs.Prelude.{◌++◌, Option, Some}
use Rattle.office_files.specs.ExamLines.{exam_line}
use Rattle.office_files.specs.Spelled.{exams_heading, periods_heading, rooms_heading}
use Rattle.office_files.specs.Spelled.{period_rules_heading, room_rules_heading, weightings_heading}
use Rattle.office_files.specs.ItemLines.{period_line, room_line, period_rule_line, room_rule_line}
use Rattle.office_files.specs.Lines.{Located, is_header}
use Rattle.office_files.specs.Headers.{header_in}
use Rattle.office_files.specs.Weightings.{weighting_line}
use Rattle.office_files.specs.Reading.{fault_of, fault_after_lines}
use Rattle.office_files.specs.declared.counts.Counts.{Counts}
use Rattle.office_files.specs.declared.fault.FaultKind.{FaultKind}
use Rattle.office_files.specs.declared.fault.FaultKind.TheVariants.{MissingSection, StrayText}

-- the position of a line: how many headers are before it, the lines after the last of them, and how
-- many lines the section of exams has so far
pub record LinePosition : Type 0 where
  pub headers : ℕ
  pub since : List Located
  pub exams : ℕ

-- the position of the first line
abbrev pub at_start : LinePosition
at_start = record { headers = 0; since = []; exams = 0 }

-- the position of the line after this one
abbrev pub position_after : LinePosition → Located → LinePosition
position_after s line =
    if is_header line.text then record { headers = s.headers + 1; since = []; exams = s.exams }
    else record {
      headers = s.headers;
      since = s.since ++ line ∷ [];
      exams = if s.headers == 1 then s.exams + 1 else s.exams;
    }

-- the fault of a header after this many others, with this many lines before the next one
abbrev pub header_fault : ℕ → ℕ → Located → Option FaultKind
header_fault zero size line = fault_of (header_in exams_heading size line.text)
header_fault (suc zero) size line = fault_of (header_in periods_heading size line.text)
header_fault (suc (suc zero)) size line = fault_of (header_in rooms_heading size line.text)
header_fault (suc (suc (suc zero))) size line =
    fault_of (header_in period_rules_heading size line.text)
header_fault (suc (suc (suc (suc zero)))) size line =
    fault_of (header_in room_rules_heading size line.text)
header_fault (suc (suc (suc (suc (suc zero))))) size line =
    fault_of (header_in weightings_heading size line.text)
header_fault (suc (suc (suc (suc (suc (suc n)))))) size line = Some StrayText

-- the fault of a line that is no header, in the section of the last of this many headers
abbrev pub item_fault : ℕ → Counts → List Located → Located → Option FaultKind
item_fault zero counts since line = Some MissingSection
item_fault (suc zero) counts since line = fault_after_lines exam_line since line
item_fault (suc (suc zero)) counts since line = fault_after_lines (period_line counts) since line
item_fault (suc (suc (suc zero))) counts since line = fault_after_lines
    (room_line counts) since line
item_fault (suc (suc (suc (suc zero)))) counts since line =
    fault_after_lines (period_rule_line counts) since line
item_fault (suc (suc (suc (suc (suc zero))))) counts since line =
    fault_after_lines (room_rule_line counts) since line
item_fault (suc (suc (suc (suc (suc (suc n)))))) counts since line =
    fault_after_lines (weighting_line counts) since line

-- the fault of a line of an instance file, with this many lines up to the next header
abbrev pub line_fault : LinePosition → Located → ℕ → Option FaultKind
line_fault s line size =
    if is_header line.text then header_fault s.headers size line
    else item_fault s.headers (record { exams = s.exams; periods = 0; rooms = 0 }) s.since line
