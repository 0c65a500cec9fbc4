-- The canonical text of an instance: the one text of it that is written.
use Rattle.std.specs.Prelude.{ℕ, zero, suc, ◌++◌, List, [], ◌∷◌, length, Option, Some, None, decimal}
use Rattle.std.specs.List.{flat_map}
use Rattle.exam_model.specs.Instance.{Session}
use Rattle.exam_model.specs.Enrolments.{Enrolled}
use Rattle.exam_model.specs.declared.parts.Exam.{Exam}
use Rattle.exam_model.specs.declared.parts.Weights.{Weights}
use Rattle.office_files.specs.Bytes.{colon, opening_bracket, closing_bracket}
use Rattle.office_files.specs.ExamLines.{ExamLine}
use Rattle.office_files.specs.Spelled.{exams_heading, periods_heading, rooms_heading}
use Rattle.office_files.specs.Spelled.{period_rules_heading, room_rules_heading, weightings_heading}
use Rattle.office_files.specs.Headers.{Heading}
use Rattle.office_files.specs.CanonicalLines.{line_of, exam_text, period_text, room_text}
use Rattle.office_files.specs.CanonicalLines.{period_rule_text, room_rule_text, weighting_text}
use Rattle.office_files.specs.declared.weightings.Weighting.{Weighting}
use Rattle.office_files.specs.declared.weightings.Weighting.TheVariants.{Row, Day, Spread, Mixed, Front, Night}

-- the weighting of nights, if it isn't 0
abbrev pub nights_of : ℕ → List Weighting
nights_of zero = []
nights_of (suc n) = Night (suc n) ∷ []

-- the five weightings of ITC 2007, and that of nights, if it isn't 0
abbrev pub weightings_of : Weights → List Weighting
weightings_of w =
    Row w.row ∷ Day w.day ∷ Spread w.spread ∷ Mixed w.mixed
    ∷ Front w.front_exams w.front_periods w.front ∷ nights_of w.night

-- the exams with their students
abbrev pub exam_lines_of : List Exam → Enrolled → List ExamLine
exam_lines_of [] E = []
exam_lines_of (e ∷ es) [] = []
exam_lines_of (e ∷ es) (students ∷ E) =
    record { minutes = e.minutes; students = students } ∷ exam_lines_of es E

-- the text after a header's word
abbrev pub count_text : Option ℕ → ℕ → List ℕ
count_text None n = closing_bracket ∷ []
count_text (Some limit) n = colon ∷ (decimal n ++ closing_bracket ∷ [])

-- a header: its word and, if the section has a limit, the number of its lines
abbrev pub header_text : Heading → ℕ → List ℕ
header_text h n = opening_bracket ∷ (h.word ++ count_text h.limit n)

-- a section: its header, and a line for each of its items
abbrev pub section_text : {A : Type 0} → Heading → (A → List ℕ) → List A → List ℕ
section_text h text items =
    line_of (header_text h (length items)) ++ flat_map (λ x. line_of (text x)) items

-- the canonical text of an instance with its enrolments: its six sections
abbrev pub canonical_instance : Session → Enrolled → List ℕ
canonical_instance I E =
    section_text exams_heading exam_text (exam_lines_of I.exams E)
    ++ section_text periods_heading period_text I.periods
    ++ section_text rooms_heading room_text I.rooms
    ++ section_text period_rules_heading period_rule_text I.period_rules
    ++ section_text room_rules_heading room_rule_text I.room_rules
    ++ section_text weightings_heading weighting_text (weightings_of I.weights)
