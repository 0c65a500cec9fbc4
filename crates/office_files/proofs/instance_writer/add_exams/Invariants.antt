use Rattle.std.proofs.Common.{◌≡◌, ◌++◌, length, string_bytes, take}
use Rattle.std.specs.List.{flat_map}
use Rattle.office_files.specs.CanonicalLines.{line_of, exam_text}
use Rattle.office_files.specs.CanonicalText.{header_text, exam_lines_of}
use Rattle.office_files.specs.Spelled.{exams_heading}
use Rattle.office_files.proofs.instance_writer.add_exams.Given as goal

abbrev pub invariant-loop-number : goal.invariant-loop-number
invariant-loop-number l = string_bytes l.text
    ≡ string_bytes l.fn.text ++ line_of (header_text exams_heading (length l.instance.exams))
    ++ flat_map (λ x. line_of (exam_text x))
    (take l.number (exam_lines_of l.instance.exams l.enrolments))
