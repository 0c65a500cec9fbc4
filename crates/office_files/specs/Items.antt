-- The values of the fields of a line (ITC 2007, input format), and of a line of a solution.
use Rattle.std.specs.Prelude.{ℕ, ◌-◌, List, codes, Result, Ok}
use Rattle.std.specs.Str.{str_eq_ignore_ascii_case}
use Rattle.exam_terms.specs.declared.limits.TheConstants.{MAX_AMOUNT, MAX_MINUTES}
use Rattle.exam_terms.specs.Refusing.{◌>>=◌, unless}
use Rattle.exam_model.specs.declared.parts.Period.{Period}
use Rattle.exam_terms.specs.declared.place.Place.{Place}
use Rattle.exam_model.specs.declared.parts.Room.{Room}
use Rattle.exam_model.specs.declared.rules.PeriodRule.{PeriodRule}
use Rattle.exam_model.specs.declared.rules.RoomRule.{RoomRule}
use Rattle.office_files.specs.Dates.{date_of, time_of}
use Rattle.office_files.specs.Fields.{first_field, other_fields, end_of_fields}
use Rattle.office_files.specs.Numbers.{number}
use Rattle.office_files.specs.RuleWords.{rule_word, rule_by}
use Rattle.office_files.specs.declared.counts.Counts.{Counts}
use Rattle.office_files.specs.declared.fault.FaultKind.{FaultKind}
use Rattle.office_files.specs.declared.fault.FaultKind.TheVariants.{BadWord}

-- date, time, length, penalty
abbrev pub period_in : List (List ℕ) → Result Period FaultKind
period_in fields = do
  date ← date_of (first_field fields)
  time ← time_of (first_field (other_fields fields))
  minutes ← number MAX_MINUTES (first_field (other_fields (other_fields fields)))
  penalty ← number MAX_AMOUNT (first_field (other_fields (other_fields (other_fields fields))))
  _ ← end_of_fields (other_fields (other_fields (other_fields (other_fields fields))))
  Ok (record {
    date = date;
    hour = time.0;
    minute = time.1;
    second = time.2;
    length = minutes;
    penalty = penalty;
  })

-- capacity, penalty
abbrev pub room_in : List (List ℕ) → Result Room FaultKind
room_in fields = do
  capacity ← number MAX_AMOUNT (first_field fields)
  penalty ← number MAX_AMOUNT (first_field (other_fields fields))
  _ ← end_of_fields (other_fields (other_fields fields))
  Ok (record { capacity = capacity; penalty = penalty })

-- exam, word, exam; both exams are below this number
abbrev pub period_rule_in : ℕ → List (List ℕ) → Result PeriodRule FaultKind
period_rule_in exams fields = do
  a ← number (exams - 1) (first_field fields)
  word ← rule_word (first_field (other_fields fields))
  b ← number (exams - 1) (first_field (other_fields (other_fields fields)))
  _ ← end_of_fields (other_fields (other_fields (other_fields fields)))
  Ok (rule_by word a b)

-- exam, word
abbrev pub room_rule_in : ℕ → List (List ℕ) → Result RoomRule FaultKind
room_rule_in exams fields = do
  a ← number (exams - 1) (first_field fields)
  _ ← unless (str_eq_ignore_ascii_case (first_field (other_fields fields))
      (codes "ROOM_EXCLUSIVE")) BadWord
  _ ← end_of_fields (other_fields (other_fields fields))
  Ok (record { 0 = a })

-- period, room; both are below their counts
abbrev pub place_in : Counts → List (List ℕ) → Result Place FaultKind
place_in counts fields = do
  period ← number (counts.periods - 1) (first_field fields)
  room ← number (counts.rooms - 1) (first_field (other_fields fields))
  _ ← end_of_fields (other_fields (other_fields fields))
  Ok (record { period = period; room = room })
