-- The dates of the calendar.
use Rattle.std.specs.Prelude.{ℕ, Bool, ◌&&◌, ◌==◌, nat_le, ℤ, pos, ◌-ℤ◌, unsigned_abs}
use Rattle.jiff_core.specs.Calendar.{days_from_civil, days_in_month}
use Rattle.exam_calendar.specs.declared.date.Date.{Date}

-- whether a number is in a range, both ends included
abbrev pub is_within : ℕ → ℕ → ℕ → Bool
is_within low high n = nat_le low n && nat_le n high

-- whether the date exists in the calendar, in the years 1 to 9999
abbrev pub is_civil : Date → Bool
is_civil d =
    is_within 1 9999 d.year
    && (is_within 1 12 d.month && is_within 1 (days_in_month (pos d.year) d.month) d.day)

-- whether two dates are equal
abbrev pub is_same_date : Date → Date → Bool
is_same_date a b = (a.year == b.year) && ((a.month == b.month) && (a.day == b.day))

-- the day number of a date: 0 for 1 January 1970
abbrev pub day_number : Date → ℤ
day_number d = days_from_civil (pos d.year) d.month d.day

-- whether the dates are one day apart, in either order
abbrev pub are_a_day_apart : Date → Date → Bool
are_a_day_apart a b = unsigned_abs (day_number a -ℤ day_number b) == 1
