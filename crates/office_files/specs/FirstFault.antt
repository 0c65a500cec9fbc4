-- The first fault of a file: that of the first of its faulty lines.
use Rattle.std.specs.Prelude.{ℕ, ◌+◌, nat_lt, nat_le, if◌then◌else◌, List, [], ◌∷◌}
use Rattle.std.specs.Prelude.{◌++◌, length, Option, None, Some}
use Rattle.exam_terms.specs.declared.limits.TheConstants.{INSTANCE_BYTES, TEXT_BYTES}
use Rattle.exam_model.specs.Instance.{Session}
use Rattle.office_files.specs.ItemLines.{place_line}
use Rattle.office_files.specs.Lines.{Located, section_size, lines_of, line_count}
use Rattle.office_files.specs.SolutionText.{counts_in}
use Rattle.office_files.specs.Reading.{fault_after_lines}
use Rattle.office_files.specs.LineFaults.{LinePosition, at_start, position_after, line_fault}
use Rattle.office_files.specs.declared.counts.Counts.{Counts}
use Rattle.office_files.specs.declared.fault.FaultKind.{FaultKind}
use Rattle.office_files.specs.declared.fault.FaultKind.TheVariants.{TooLong, MissingSection}
use Rattle.office_files.specs.declared.fault.FaultKind.TheVariants.{CountMismatch}
use Rattle.office_files.specs.declared.fault.FileFault.{FileFault}

-- a fault at its line, or else that of the rest
abbrev pub at_line_or : ℕ → Option FaultKind → Option FileFault → Option FileFault
at_line_or line (Some what) later = Some (record { line = line; what = what })
at_line_or line None later = later

-- the first fault of lines from their position on; the end of the file counts as one more line
abbrev pub first_from : ℕ → LinePosition → List Located → Option FileFault
first_from end s [] =
    if nat_lt s.headers 6 then Some (record { line = end; what = MissingSection }) else None
first_from end s (line ∷ lines) =
    at_line_or line.line (line_fault s line (section_size lines))
    (first_from end (position_after s line) lines)

-- the first fault of an instance file, if it has one
abbrev pub first_fault : List ℕ → Option FileFault
first_fault b =
    if nat_le (length b) INSTANCE_BYTES then first_from (line_count b + 1) at_start (lines_of b)
    else Some (record { line = 0; what = TooLong })

-- the first fault of the lines of a solution that follow others
abbrev pub first_place_fault : Counts → ℕ → List Located → List Located → Option FileFault
first_place_fault counts end before [] =
    if nat_lt (length before) counts.exams
    then Some (record { line = end; what = CountMismatch }) else None
first_place_fault counts end before (line ∷ lines) =
    at_line_or line.line (fault_after_lines (place_line counts) before line)
    (first_place_fault counts end (before ++ line ∷ []) lines)

-- the first fault of a solution file for a session, if it has one
abbrev pub first_solution_fault : Session → List ℕ → Option FileFault
first_solution_fault I b =
    if nat_le (length b) TEXT_BYTES
    then first_place_fault (counts_in I) (line_count b + 1) [] (lines_of b)
    else Some (record { line = 0; what = TooLong })
