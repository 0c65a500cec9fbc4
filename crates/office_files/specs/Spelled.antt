-- The six sections of an instance file: how each begins, and what they describe together.
use Rattle.std.specs.Prelude.{List, map, length, codes, None, Some}
use Rattle.exam_terms.specs.declared.limits.TheConstants.{MAX_EXAMS, MAX_PERIODS, MAX_ROOMS}
use Rattle.exam_model.specs.Enrolments.{Enrolled}
use Rattle.exam_model.specs.Instance.{Session}
use Rattle.exam_model.specs.declared.parts.Period.{Period}
use Rattle.exam_model.specs.declared.parts.Room.{Room}
use Rattle.exam_model.specs.declared.rules.PeriodRule.{PeriodRule}
use Rattle.exam_model.specs.declared.rules.RoomRule.{RoomRule}
use Rattle.office_files.specs.ExamLines.{ExamLine, exam_of}
use Rattle.office_files.specs.Headers.{Heading}
use Rattle.office_files.specs.Weights.{with_weightings, no_weights}
use Rattle.office_files.specs.declared.counts.Counts.{Counts}
use Rattle.office_files.specs.declared.weightings.Weighting.{Weighting}

-- the start of the section of exams: its word, then how many lines it has
abbrev pub exams_heading : Heading
exams_heading = record { word = codes "Exams"; limit = Some MAX_EXAMS }

-- how that of the periods begins
abbrev pub periods_heading : Heading
periods_heading = record { word = codes "Periods"; limit = Some MAX_PERIODS }

-- how that of the rooms begins
abbrev pub rooms_heading : Heading
rooms_heading = record { word = codes "Rooms"; limit = Some MAX_ROOMS }

-- the start of the section of rules on periods: only its word
abbrev pub period_rules_heading : Heading
period_rules_heading = record { word = codes "PeriodHardConstraints"; limit = None }

-- how that of the rules on rooms begins
abbrev pub room_rules_heading : Heading
room_rules_heading = record { word = codes "RoomHardConstraints"; limit = None }

-- how that of the weightings begins
abbrev pub weightings_heading : Heading
weightings_heading = record { word = codes "InstitutionalWeightings"; limit = None }

-- the count by which the lines of the later sections are judged: the number of exams
abbrev pub counts_of : List ExamLine → Counts
counts_of exams = record { exams = length exams; periods = 0; rooms = 0 }

-- the six sections of a file, one after the other
pub record Spelled : Type 0 where
  pub exams : List ExamLine
  pub periods : List Period
  pub rooms : List Room
  pub period_rules : List PeriodRule
  pub room_rules : List RoomRule
  pub weightings : List Weighting

-- the session that the sections spell
abbrev pub session_of : Spelled → Session
session_of s = record {
  exams = map exam_of s.exams;
  periods = s.periods;
  rooms = s.rooms;
  period_rules = s.period_rules;
  room_rules = s.room_rules;
  weights = with_weightings no_weights s.weightings;
}

-- the enrolments that they spell
abbrev pub enrolled_of : Spelled → Enrolled
enrolled_of s = map (λ line. line.students) s.exams
