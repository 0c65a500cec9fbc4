-- The summands of each part of the penalty, with what they count. A summand of 0 points is none.
use Rattle.std.specs.Prelude.{ℕ, ◌-◌, ◌*◌, ◌==◌, Bool, List, None, Option, Some, false, if◌then◌else◌, length, slice_get}
use Rattle.exam_model.specs.Enrolments.{Enrolled, shared_students, size_of}
use Rattle.exam_model.specs.Fits.{period_of}
use Rattle.exam_model.specs.Instance.{Session}
use Rattle.exam_model.specs.PairCost.{cost_between}
use Rattle.exam_model.specs.Sums.{count_below}
use Rattle.exam_model.specs.Timetable.{Placing, place_of}
use Rattle.exam_terms.specs.declared.place.Place.{Place}
use Rattle.exam_score.specs.FrontLoad.{exam_front}
use Rattle.exam_score.specs.Kinds.{Kind, cost_in, in_day, in_row, in_spread, in_table, over_night}
use Rattle.exam_score.specs.MixedDurations.{durations}
use Rattle.exam_score.specs.Track.{period_penalty, room_penalty}
use Rattle.exam_reasons.specs.Lists.{all_below, listed}
use Rattle.exam_reasons.specs.declared.reasons.ExamReason.{ExamReason}
use Rattle.exam_reasons.specs.declared.reasons.MixedReason.{MixedReason}
use Rattle.exam_reasons.specs.declared.reasons.PairKind.{PairKind}
use Rattle.exam_reasons.specs.declared.reasons.PairKind.TheVariants.{Day, Night, Row, Spread}
use Rattle.exam_reasons.specs.declared.reasons.PairReason.{PairReason}
use Rattle.exam_reasons.specs.declared.reasons.PlaceReason.{PlaceReason}

-- ---- pairs of exams

-- the kind of cost that a part counts
abbrev pub kind_of : PairKind → Kind
kind_of Row = in_table in_row
kind_of Day = in_table in_day
kind_of Spread = in_table in_spread
kind_of Night = over_night

-- the students who sit both exams, times the cost of their periods
abbrev pub pair_points : Session → Enrolled → Placing → PairKind → ℕ → ℕ → ℕ
pair_points I E T kind e f = shared_students E e f
    * cost_between (cost_in I (kind_of kind)) (period_of T e) (period_of T f)

-- what two exams cost
abbrev pub pair_reason : Session → Enrolled → Placing → PairKind → ℕ → ℕ → Option PairReason
pair_reason I E T kind e f = if pair_points I E T kind e f == 0 then None else Some (record {
  exam = e;
  other = f;
  students = shared_students E e f;
  points = pair_points I E T kind e f;
})

-- all pairs of exams that cost something, by the greater exam and then by the smaller one
abbrev pub pair_reasons : Session → Enrolled → Placing → PairKind → List PairReason
pair_reasons I E T kind = all_below (length E) (λ f.
    all_below f (λ e. listed (pair_reason I E T kind e f)))

-- ---- mixed durations

-- what the durations in a room and period cost: each but one
abbrev pub mixed_points : Session → Placing → ℕ → ℕ → ℕ
mixed_points I T r p = (durations I T p r - 1) * I.weights.mixed

-- what a room and period with more durations than one cost
abbrev pub mixed_reason : Session → Placing → ℕ → ℕ → Option MixedReason
mixed_reason I T r p = if mixed_points I T r p == 0 then None else Some (record {
  room = r;
  period = p;
  durations = durations I T p r;
  points = mixed_points I T r p;
})

-- all rooms and periods with more durations than one, by room and then by period
abbrev pub mixed_reasons : Session → Placing → List MixedReason
mixed_reasons I T = all_below (length I.rooms) (λ r.
    all_below (length I.periods) (λ p. listed (mixed_reason I T r p)))

-- ---- front load

-- what an exam adds to the front load
abbrev pub front_reason : Session → Enrolled → Placing → ℕ → Option ExamReason
front_reason I E T e = if exam_front I E T e == 0 then None else Some (record {
  exam = e;
  students = size_of E e;
  points = exam_front I E T e;
})

-- all exams of the front load, ascending
abbrev pub front_reasons : Session → Enrolled → Placing → List ExamReason
front_reasons I E T = all_below (length I.exams) (λ e. listed (front_reason I E T e))

-- ---- periods and rooms

-- what so many exams add, each with this penalty
abbrev pub place_reason : ℕ → ℕ → ℕ → Option PlaceReason
place_reason n exams penalty = if exams * penalty == 0 then None else Some (record {
  number = n;
  exams = exams;
  points = exams * penalty;
})

-- whether a place is in a period
abbrev pub is_in_period : ℕ → Option Place → Bool
is_in_period p None = false
is_in_period p (Some at) = at.period == p

-- whether a place is in a room
abbrev pub is_in_room : ℕ → Option Place → Bool
is_in_room r None = false
is_in_room r (Some at) = at.room == r

-- how many exams are in a period
abbrev pub exams_in_period : Placing → ℕ → ℕ
exams_in_period T p = count_below (length T) (λ e. is_in_period p (place_of T e))

-- how many exams are in a room
abbrev pub exams_in_room : Placing → ℕ → ℕ
exams_in_room T r = count_below (length T) (λ e. is_in_room r (place_of T e))

-- what the exams of a period add
abbrev pub period_reason : Session → Placing → ℕ → Option PlaceReason
period_reason I T p =
    place_reason p (exams_in_period T p) (period_penalty (slice_get I.periods p))

-- what the exams of a room add
abbrev pub room_reason : Session → Placing → ℕ → Option PlaceReason
room_reason I T r = place_reason r (exams_in_room T r) (room_penalty (slice_get I.rooms r))

-- all periods that cost something, ascending
abbrev pub period_reasons : Session → Placing → List PlaceReason
period_reasons I T = all_below (length I.periods) (λ p. listed (period_reason I T p))

-- all rooms that cost something, ascending
abbrev pub room_reasons : Session → Placing → List PlaceReason
room_reasons I T = all_below (length I.rooms) (λ r. listed (room_reason I T r))
