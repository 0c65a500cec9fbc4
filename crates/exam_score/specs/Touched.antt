-- The mixed part of the periods and rooms touched by an edit, and sums over edited exams.
use Rattle.std.specs.Prelude.{ℕ, ◌-◌, ◌*◌, Bool, not, ◌&&◌, ◌||◌, if◌then◌else◌, nat_lt, Option, None, Some, List, length}
use Rattle.std.specs.List.{list_any}
use Rattle.exam_terms.specs.declared.place.Place.{Place}
use Rattle.exam_model.specs.Enrolments.{has_number}
use Rattle.exam_model.specs.Instance.{Session}
use Rattle.exam_model.specs.Sums.{sum_below}
use Rattle.exam_model.specs.Timetable.{Placing, place_of}
use Rattle.exam_score.specs.MixedDurations.{durations, is_at}

-- whether an edited exam is in this period and room, before the edit or after it
abbrev pub is_touched : List ℕ → Placing → Placing → ℕ → ℕ → Bool
is_touched edited old new p r =
    list_any (λ e. is_at p r (place_of old e) || is_at p r (place_of new e)) edited

-- the mixed part of one room in the periods that pass
abbrev pub room_mixed_cost_if : Session → Placing → (ℕ → ℕ → Bool) → ℕ → ℕ
room_mixed_cost_if I T touched r =
    sum_below (length I.periods) (λ p.
    if touched p r then (durations I T p r - 1) * I.weights.mixed else 0)

-- the mixed part of the periods and rooms that pass
abbrev pub mixed_cost_if : Session → Placing → (ℕ → ℕ → Bool) → ℕ
mixed_cost_if I T touched = sum_below (length I.rooms) (room_mixed_cost_if I T touched)

-- the share of one more place in the mixed part of the periods and rooms that pass: 0 if its period
-- or room doesn't exist, or if it passes already
abbrev pub further_mixed : Session → Placing → (ℕ → ℕ → Bool) → Option Place → ℕ
further_mixed I T touched None = 0
further_mixed I T touched (Some at) =
    if (nat_lt at.room (length I.rooms) && nat_lt at.period (length I.periods))
    && not (touched at.period at.room)
    then (durations I T at.period at.room - 1) * I.weights.mixed else 0

-- g summed over the exams in a list, each of them once
abbrev pub sum_over_exams : Session → List ℕ → (ℕ → ℕ) → ℕ
sum_over_exams I exams g = sum_below (length I.exams) (λ e. if has_number exams e then g e else 0)
