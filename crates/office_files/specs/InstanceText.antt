-- The session and enrolments that an instance file describes, and its reading (ITC 2007, input
-- format).
use Rattle.std.specs.Prelude.{◌≡◌, ℕ, ◌+◌, ◌≤◌, nat_le, List, [], ◌∷◌, length, Result, Ok, Err}
use Rattle.exam_terms.specs.declared.limits.TheConstants.{INSTANCE_BYTES}
use Rattle.exam_terms.specs.Refusing.{◌>>=◌, unless}
use Rattle.exam_model.specs.Enrolments.{Enrolled}
use Rattle.exam_model.specs.Instance.{Session}
use Rattle.office_files.specs.ExamLines.{ExamLine, exam_line}
use Rattle.office_files.specs.ItemLines.{period_line, room_line, period_rule_line, room_rule_line}
use Rattle.office_files.specs.Lines.{Located, lines_of, line_count}
use Rattle.office_files.specs.Reading.{at_line}
use Rattle.office_files.specs.Sections.{IsSection, section_in}
use Rattle.office_files.specs.Weightings.{weighting_line}
use Rattle.office_files.specs.Spelled.{exams_heading, periods_heading, rooms_heading}
use Rattle.office_files.specs.Spelled.{period_rules_heading, room_rules_heading, weightings_heading}
use Rattle.office_files.specs.Spelled.{counts_of, Spelled, session_of, enrolled_of}
use Rattle.office_files.specs.declared.fault.FaultKind.TheVariants.{TooLong, StrayText}
use Rattle.office_files.specs.declared.fault.FileFault.{FileFault}

-- a text within the limit of bytes describes a session and enrolments: its lines are exactly the
-- six sections in their order
pub record InstanceText (b : List ℕ) (I : Session) (E : Enrolled) : Type 0 where
  pub within : length b ≤ INSTANCE_BYTES
  pub said : Spelled
  pub rest_after_exams : List Located
  pub rest_after_periods : List Located
  pub rest_after_rooms : List Located
  pub rest_after_period_rules : List Located
  pub rest_after_room_rules : List Located
  pub exams : IsSection exams_heading exam_line (lines_of b) said.exams rest_after_exams
  pub periods : IsSection periods_heading (period_line (counts_of said.exams))
      rest_after_exams said.periods rest_after_periods
  pub rooms : IsSection rooms_heading (room_line (counts_of said.exams))
      rest_after_periods said.rooms rest_after_rooms
  pub period_rules : IsSection period_rules_heading (period_rule_line (counts_of said.exams))
      rest_after_rooms said.period_rules rest_after_period_rules
  pub room_rules : IsSection room_rules_heading (room_rule_line (counts_of said.exams))
      rest_after_period_rules said.room_rules rest_after_room_rules
  pub weightings : IsSection weightings_heading (weighting_line (counts_of said.exams))
      rest_after_room_rules said.weightings []
  pub session : I ≡ session_of said
  pub enrolled : E ≡ enrolled_of said

-- the sixth section is followed by nothing
abbrev pub no_more : List Located → Result (Unit {0}) FileFault
no_more [] = Ok tt
no_more (line ∷ lines) = Err (record { line = line.line; what = StrayText })

-- the sections after that of the exams, read in their order
abbrev pub later_sections : ℕ → List ExamLine → List Located → Result Spelled FileFault
later_sections end exams lines = do
  let counts = counts_of exams
  periods ← section_in periods_heading (period_line counts) end lines
  rooms ← section_in rooms_heading (room_line counts) end periods.1
  period_rules ← section_in period_rules_heading (period_rule_line counts) end rooms.1
  room_rules ← section_in room_rules_heading (room_rule_line counts) end period_rules.1
  weightings ← section_in weightings_heading (weighting_line counts) end room_rules.1
  _ ← no_more weightings.1
  Ok (record {
    exams = exams;
    periods = periods.0;
    rooms = rooms.0;
    period_rules = period_rules.0;
    room_rules = room_rules.0;
    weightings = weightings.0;
  })

-- the reading of an instance file: the result, or its first fault
abbrev pub instance_in : List ℕ → Result (Session × Enrolled) FileFault
instance_in b = do
  _ ← at_line 0 (unless (nat_le (length b) INSTANCE_BYTES) TooLong)
  exams ← section_in exams_heading exam_line (line_count b + 1) (lines_of b)
  said ← later_sections (line_count b + 1) exams.0 exams.1
  Ok (session_of said, enrolled_of said)
