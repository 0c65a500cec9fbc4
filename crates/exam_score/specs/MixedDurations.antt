-- Mixed durations: the cost of exams of different durations in one room and period.
use Rattle.std.specs.Prelude.{ℕ, ◌+◌, ◌-◌, ◌*◌, Bool, false, ◌&&◌, ◌==◌, nat_lt, Option, Some, None, length, slice_get}
use Rattle.exam_terms.specs.declared.limits.TheConstants.{MAX_MINUTES}
use Rattle.exam_model.specs.Instance.{Session}
use Rattle.exam_model.specs.Timetable.{Placing, place_of}
use Rattle.exam_model.specs.Sums.{sum_below, count_below}
use Rattle.exam_model.specs.declared.parts.Exam.{Exam}
use Rattle.exam_terms.specs.declared.place.Place.{Place}

-- the possible durations, 0 minutes among them
unfoldable pub duration_count : ℕ
duration_count = MAX_MINUTES + 1

-- the duration of an exam, if it exists
abbrev pub minutes_of : Option Exam → ℕ
minutes_of None = 0
minutes_of (Some x) = x.minutes

-- whether a place is this period and room
abbrev pub is_at : ℕ → ℕ → Option Place → Bool
is_at p r None = false
is_at p r (Some at) = (at.period == p) && (at.room == r)

-- whether an exam is in a period and room and lasts that many minutes
abbrev pub has_duration : Session → Placing → ℕ → ℕ → ℕ → ℕ → Bool
has_duration I T p r m e = is_at p r (place_of T e) && (minutes_of (slice_get I.exams e) == m)

-- how many exams of the session are in that period and room and last that long
abbrev pub exams_with_duration : Session → Placing → ℕ → ℕ → ℕ → ℕ
exams_with_duration I T p r m = count_below (length I.exams) (has_duration I T p r m)

-- how many different durations there are in a period and room
abbrev pub durations : Session → Placing → ℕ → ℕ → ℕ
durations I T p r = count_below duration_count (λ m. nat_lt 0 (exams_with_duration I T p r m))

-- a room's share over all periods: each duration but one, and nothing if no exam is there
abbrev pub room_mixed : Session → Placing → ℕ → ℕ
room_mixed I T r = sum_below (length I.periods) (λ p. (durations I T p r - 1) * I.weights.mixed)

-- the sum over all rooms
abbrev pub mixed_part : Session → Placing → ℕ
mixed_part I T = sum_below (length I.rooms) (room_mixed I T)
