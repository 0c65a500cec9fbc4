-- Dates and times of day.
use Rattle.std.specs.Prelude.{ℕ, ◌&&◌, nat_le, if◌then◌else◌, List, length, Option, Some, None, Result, Ok, Err}
use Rattle.exam_calendar.specs.Dates.{is_civil}
use Rattle.exam_calendar.specs.declared.date.Date.{Date}
use Rattle.exam_terms.specs.Refusing.{◌>>=◌, else_err}
use Rattle.office_files.specs.Bytes.{colon}
use Rattle.office_files.specs.Fields.{split_once}
use Rattle.office_files.specs.Numbers.{number}
use Rattle.office_files.specs.declared.fault.FaultKind.{FaultKind}
use Rattle.office_files.specs.declared.fault.FaultKind.TheVariants.{BadDate, BadTime}

-- the result of a reading, with this fault instead of any other
abbrev pub or_fault : {A : Type 0} → FaultKind → Result A FaultKind → Result A FaultKind
or_fault fault (Ok x) = Ok x
or_fault fault (Err e) = Err fault

-- a number with a least and a most number of digits, within the limit
abbrev pub digits_of : FaultKind → ℕ → ℕ → ℕ → List ℕ → Result ℕ FaultKind
digits_of fault least most limit text =
    if nat_le least (length text) && nat_le (length text) most
    then or_fault fault (number limit text) else Err fault

-- the date with these numbers, if it exists in the calendar, in the years 1 to 9999
abbrev pub date_if_any : ℕ → ℕ → ℕ → Option Date
date_if_any year month day =
    let d : Date = record {
      year = year;
      month = month;
      day = day;
    } in
    if is_civil d then Some d else None

-- DD:MM:YYYY, the day and the month of one digit or two
abbrev pub date_of : List ℕ → Result Date FaultKind
date_of text = do
  front ← else_err BadDate (split_once colon text)
  back ← else_err BadDate (split_once colon front.1)
  day ← digits_of BadDate 1 2 99 front.0
  month ← digits_of BadDate 1 2 99 back.0
  year ← digits_of BadDate 4 4 9999 back.1
  else_err BadDate (date_if_any year month day)

-- HH:MM:SS, each of one digit or two
abbrev pub time_of : List ℕ → Result (ℕ × ℕ × ℕ) FaultKind
time_of text = do
  front ← else_err BadTime (split_once colon text)
  back ← else_err BadTime (split_once colon front.1)
  hour ← digits_of BadTime 1 2 23 front.0
  minute ← digits_of BadTime 1 2 59 back.0
  second ← digits_of BadTime 1 2 59 back.1
  Ok (hour, minute, second)
