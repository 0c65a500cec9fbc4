-- The lines of the canonical text of an instance, field by field.
use Rattle.std.specs.Prelude.{ℕ, ◌+◌, ◌/◌, ◌%◌, ◌++◌, codes, List, [], ◌∷◌, decimal}
use Rattle.std.specs.List.{flat_map}
use Rattle.exam_model.specs.declared.parts.Period.{Period}
use Rattle.exam_model.specs.declared.parts.Room.{Room}
use Rattle.exam_model.specs.declared.rules.PeriodRule.{PeriodRule}
use Rattle.exam_model.specs.declared.rules.PeriodRule.TheVariants.{After, Coincidence, Exclusion}
use Rattle.exam_model.specs.declared.rules.RoomRule.{RoomRule}
use Rattle.exam_calendar.specs.declared.date.Date.{Date}
use Rattle.office_files.specs.Bytes.{space, comma, colon, line_feed, carriage_return}
use Rattle.office_files.specs.ExamLines.{ExamLine}
use Rattle.office_files.specs.declared.weightings.Weighting.{Weighting}
use Rattle.office_files.specs.declared.weightings.Weighting.TheVariants.{Row, Day, Spread, Mixed, Front, Night}

-- a line and its end, a carriage return and a line feed
abbrev pub line_of : List ℕ → List ℕ
line_of text = text ++ carriage_return ∷ line_feed ∷ []

-- a field in front of the others of a line, with a comma and a space between
abbrev pub field_before : List ℕ → List ℕ → List ℕ
field_before field others = field ++ comma ∷ space ∷ others

-- a number below 100 in two digits
abbrev pub two_digits : ℕ → List ℕ
two_digits n = (48 + n / 10) ∷ (48 + n % 10) ∷ []

-- DD:MM:YYYY
abbrev pub date_text : Date → List ℕ
date_text d =
    two_digits d.day ++ colon ∷ (two_digits d.month ++ colon ∷ (
    two_digits (d.year / 100) ++ two_digits (d.year % 100)))

-- HH:MM:SS
abbrev pub time_text : Period → List ℕ
time_text p =
    two_digits p.hour ++ colon ∷ (two_digits p.minute ++ colon ∷ two_digits p.second)

-- duration, students
abbrev pub exam_text : ExamLine → List ℕ
exam_text e = decimal e.minutes ++ flat_map (λ s. comma ∷ space ∷ decimal s) e.students

-- date, time, length, penalty
abbrev pub period_text : Period → List ℕ
period_text p =
    field_before (date_text p.date) (field_before (time_text p)
    (field_before (decimal p.length) (decimal p.penalty)))

-- capacity, penalty
abbrev pub room_text : Room → List ℕ
room_text r = field_before (decimal r.capacity) (decimal r.penalty)

-- exam, word, exam
abbrev pub period_rule_text : PeriodRule → List ℕ
period_rule_text (After a b) = field_before (decimal a) (field_before (codes "AFTER") (decimal b))
period_rule_text (Coincidence a b) =
    field_before (decimal a) (field_before (codes "EXAM_COINCIDENCE") (decimal b))
period_rule_text (Exclusion a b) =
    field_before (decimal a) (field_before (codes "EXCLUSION") (decimal b))

-- exam, word
abbrev pub room_rule_text : RoomRule → List ℕ
room_rule_text r = field_before (decimal r.0) (codes "ROOM_EXCLUSIVE")

-- a word and its number, with only a comma between
abbrev pub word_and_number : List ℕ → ℕ → List ℕ
word_and_number word n = word ++ comma ∷ decimal n

-- a weighting, with only commas between its fields
abbrev pub weighting_text : Weighting → List ℕ
weighting_text (Row w) = word_and_number (codes "TWOINAROW") w
weighting_text (Day w) = word_and_number (codes "TWOINADAY") w
weighting_text (Spread g) = word_and_number (codes "PERIODSPREAD") g
weighting_text (Mixed w) = word_and_number (codes "NONMIXEDDURATIONS") w
weighting_text (Front n k w) =
    word_and_number (codes "FRONTLOAD") n ++ comma ∷ (decimal k ++ comma ∷ decimal w)
weighting_text (Night w) = word_and_number (codes "OVERNIGHT") w
