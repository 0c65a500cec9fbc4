-- The places of exams in a timetable, and the students that they share.
use Rattle.std.specs.Prelude.{ℕ, Bool, false, not, ◌&&◌, ◌==◌, nat_le, nat_lt, if◌then◌else◌, length, Option, Some, None}
use Rattle.exam_model.specs.Sums.{sum_below}
use Rattle.exam_model.specs.Enrolments.{Enrolled, size_of, shared_students}
use Rattle.exam_model.specs.Timetable.{Placing, place_of}
use Rattle.exam_terms.specs.declared.place.Place.{Place}
pub use Rattle.exam_model.specs.Fits.{Fits, PlaceExists}

-- a test of a place; false if there is no place
abbrev pub place_satisfies : (Place → Bool) → Option Place → Bool
place_satisfies test None = false
place_satisfies test (Some p) = test p

-- a test of two places; false if one is missing
abbrev pub both_satisfy : (Place → Place → Bool) → Option Place → Option Place → Bool
both_satisfy test None q = false
both_satisfy test (Some p) q = place_satisfies (test p) q

-- whether two exams are placed, and their places pass a test
abbrev pub both_placed : Placing → (Place → Place → Bool) → ℕ → ℕ → Bool
both_placed T test e f = both_satisfy test (place_of T e) (place_of T f)

-- whether two exams are in one period
abbrev pub in_one_period : Placing → ℕ → ℕ → Bool
in_one_period T e f = both_placed T (λ p q. p.period == q.period) e f

-- whether two exams are in different periods
abbrev pub in_two_periods : Placing → ℕ → ℕ → Bool
in_two_periods T e f = both_placed T (λ p q. not (p.period == q.period)) e f

-- whether the period of e is not greater than that of f
abbrev pub is_not_after : Placing → ℕ → ℕ → Bool
is_not_after T e f = both_placed T (λ p q. nat_le p.period q.period) e f

-- whether two places have the same room and period
abbrev pub is_one_place : Place → Place → Bool
is_one_place p q = (p.period == q.period) && (p.room == q.room)

-- whether two exams are in one room and period
abbrev pub in_one_place : Placing → ℕ → ℕ → Bool
in_one_place T e f = both_placed T is_one_place e f

-- whether two exams share a student
abbrev pub share_student : Enrolled → ℕ → ℕ → Bool
share_student E e f = nat_lt 0 (shared_students E e f)

-- how many students sit in a room and period, over the exams below n that are there
abbrev pub load_below : Enrolled → Placing → Place → ℕ → ℕ
load_below E T p n =
    sum_below n (λ e. if place_satisfies (is_one_place p) (place_of T e) then size_of E e else 0)

-- how many students sit in a room and period, over all exams
abbrev pub load_at : Enrolled → Placing → Place → ℕ
load_at E T p = load_below E T p (length E)
