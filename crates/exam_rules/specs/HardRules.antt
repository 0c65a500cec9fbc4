-- The hard rules of a session (ITC 2007, hard constraints): which exams break which rule.
use Rattle.std.specs.Prelude.{ℕ, Bool, false, not, ◌&&◌, ◌==◌, nat_lt, Option, Some, None, slice_get}
use Rattle.std.specs.List.{list_any}
use Rattle.exam_model.specs.Instance.{Session}
use Rattle.exam_model.specs.Enrolments.{Enrolled}
use Rattle.exam_model.specs.Timetable.{Placing, place_of}
use Rattle.exam_model.specs.declared.parts.Exam.{Exam}
use Rattle.exam_model.specs.declared.parts.Period.{Period}
use Rattle.exam_model.specs.declared.parts.Room.{Room}
use Rattle.exam_rules.specs.declared.breach.BreachRule.{BreachRule}
use Rattle.exam_rules.specs.declared.breach.BreachRule.TheVariants.{Duration, Clash, Capacity, After, Coincidence, Exclusion, RoomExclusive}
use Rattle.exam_rules.specs.Lines.{is_after, is_coincidence, is_exclusion, is_exclusive}
use Rattle.exam_rules.specs.Places.{place_satisfies, in_one_period, in_two_periods, is_not_after, in_one_place, share_student, load_at}

-- whether an exam lasts longer than a period
abbrev pub is_longer : Option Exam → Option Period → Bool
is_longer None period = false
is_longer (Some exam) None = false
is_longer (Some exam) (Some period) = nat_lt period.length exam.minutes

-- whether the exam lasts longer than its period
abbrev pub is_too_long : Session → Placing → ℕ → Bool
is_too_long I T e =
    place_satisfies (λ p. is_longer (slice_get I.exams e) (slice_get I.periods p.period))
    (place_of T e)

-- whether the room's capacity is below this number of students
abbrev pub is_too_small : Option Room → ℕ → Bool
is_too_small None students = false
is_too_small (Some room) students = nat_lt room.capacity students

-- whether the exam's room is too small for all exams there in its period
abbrev pub is_overfull : Session → Enrolled → Placing → ℕ → Bool
is_overfull I E T e =
    place_satisfies (λ p. is_too_small (slice_get I.rooms p.room) (load_at E T p)) (place_of T e)

-- whether the exams e and f break a rule; an exam without a place breaks no rule, and a line that
-- names one exam twice is never broken
abbrev pub breaks : Session → Enrolled → Placing → BreachRule → ℕ → ℕ → Bool
-- an exam lasts longer than its period: the exam, twice
breaks I E T Duration e f = (e == f) && is_too_long I T e
-- two exams share a student and are in one period: the smaller first
breaks I E T Clash e f = nat_lt e f && (in_one_period T e f && share_student E e f)
-- the exams in a room and period have more students than the room holds: each of them, twice
breaks I E T Capacity e f = (e == f) && is_overfull I E T e
-- a line puts e after f, and the period of e is not greater
breaks I E T After e f =
    list_any (is_after e f) I.period_rules && (not (e == f) && is_not_after T e f)
-- a line puts both in one period, no student sits both, but their periods differ: the smaller first
breaks I E T Coincidence e f =
    list_any (is_coincidence e f) I.period_rules
    && (nat_lt e f && (not (share_student E e f) && in_two_periods T e f))
-- a line puts both in different periods, and their periods are equal: the smaller first
breaks I E T Exclusion e f =
    list_any (is_exclusion e f) I.period_rules && (nat_lt e f && in_one_period T e f)
-- a line gives e its room to itself, and f is in its room and period
breaks I E T RoomExclusive e f =
    list_any (is_exclusive e) I.room_rules && (not (e == f) && in_one_place T e f)
