-- The distance of two periods, by their numbers and by their dates.
use Rattle.std.specs.Prelude.{ℕ, ◌+◌, ◌-◌, Bool, false, List, Option, Some, None, slice_get}
use Rattle.exam_calendar.specs.Dates.{are_a_day_apart, is_same_date}
use Rattle.exam_model.specs.declared.parts.Period.{Period}

-- the distance of two period numbers
abbrev pub gap : ℕ → ℕ → ℕ
gap p q = (p - q) + (q - p)

-- whether two periods have the same date
abbrev pub share_date : Option Period → Option Period → Bool
share_date None q = false
share_date (Some p) None = false
share_date (Some p) (Some q) = is_same_date p.date q.date

-- whether two periods exist and have the same date
abbrev pub is_same_day : List Period → ℕ → ℕ → Bool
is_same_day periods p q = share_date (slice_get periods p) (slice_get periods q)

-- whether the dates of two periods are one day apart, in either order
abbrev pub have_next_dates : Option Period → Option Period → Bool
have_next_dates None q = false
have_next_dates (Some p) None = false
have_next_dates (Some p) (Some q) = are_a_day_apart p.date q.date

-- whether two periods exist and their dates are one day apart, in either order
abbrev pub next_day : List Period → ℕ → ℕ → Bool
next_day periods p q = have_next_dates (slice_get periods p) (slice_get periods q)
