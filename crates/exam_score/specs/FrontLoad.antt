-- Front load: the cost of large exams in late periods.
use Rattle.std.specs.Prelude.{ℕ, ◌+◌, Bool, false, ◌&&◌, ◌||◌, if◌then◌else◌, ◌==◌, nat_lt, nat_le, Option, Some, None, length}
use Rattle.exam_model.specs.Instance.{Session}
use Rattle.exam_model.specs.Enrolments.{Enrolled, size_of}
use Rattle.exam_model.specs.Timetable.{Placing, place_of}
use Rattle.exam_model.specs.Sums.{sum_below, count_below}
use Rattle.exam_terms.specs.declared.place.Place.{Place}

-- exam f is larger than e: more students, or equally many and a smaller number
abbrev pub is_larger : Enrolled → ℕ → ℕ → Bool
is_larger E f e = nat_lt (size_of E e) (size_of E f) || ((size_of E f == size_of E e) && nat_lt f e)

-- fewer exams are larger than the number that the front load counts
abbrev pub is_largest : Session → Enrolled → ℕ → Bool
is_largest I E e =
    nat_lt (count_below (length I.exams) (λ f. is_larger E f e)) I.weights.front_exams

-- in one of the last periods, as many as the front load says
abbrev pub is_late : Session → Option Place → Bool
is_late I None = false
is_late I (Some at) = nat_le (length I.periods) (at.period + I.weights.front_periods)

-- the share of one exam
abbrev pub exam_front : Session → Enrolled → Placing → ℕ → ℕ
exam_front I E T e = if is_largest I E e && is_late I (place_of T e) then I.weights.front else 0

-- the front load: the shares of all exams of the session, added up
abbrev pub front_part : Session → Enrolled → Placing → ℕ
front_part I E T = sum_below (length I.exams) (exam_front I E T)
