-- The penalty of a timetable, part by part (ITC 2007, soft constraints).
use Rattle.std.specs.Prelude.{ℕ, Option, Some, None, length, slice_get}
use Rattle.exam_model.specs.Instance.{Session}
use Rattle.exam_model.specs.Enrolments.{Enrolled}
use Rattle.exam_model.specs.Timetable.{Placing, place_of}
use Rattle.exam_model.specs.Fits.{period_of}
use Rattle.exam_model.specs.Sums.{sum_below}
use Rattle.exam_model.specs.declared.parts.Period.{Period}
use Rattle.exam_model.specs.declared.parts.Room.{Room}
use Rattle.exam_terms.specs.declared.place.Place.{Place}
use Rattle.exam_score.specs.Kinds.{cost_in, by_kind}
use Rattle.exam_score.specs.Regrouping.{pair_part}
use Rattle.exam_score.specs.Penalty.{Penalty, PersonalPenalty, with_pairs}
use Rattle.exam_score.specs.MixedDurations.{mixed_part}
use Rattle.exam_score.specs.FrontLoad.{front_part}

-- ---- periods and rooms

-- the penalty of a period, if it exists
abbrev pub period_penalty : Option Period → ℕ
period_penalty None = 0
period_penalty (Some p) = p.penalty

-- the penalty of a room, if it exists
abbrev pub room_penalty : Option Room → ℕ
room_penalty None = 0
room_penalty (Some r) = r.penalty

-- the penalty of an exam's period, once for each exam that is in it
abbrev pub exam_period : Session → Option Place → ℕ
exam_period I None = 0
exam_period I (Some at) = period_penalty (slice_get I.periods at.period)

-- the penalty of an exam's room, once for each exam that is in it
abbrev pub exam_room : Session → Option Place → ℕ
exam_room I None = 0
exam_room I (Some at) = room_penalty (slice_get I.rooms at.room)

-- the period part: the penalties of the periods of all exams of the session
abbrev pub period_part : Session → Placing → ℕ
period_part I T = sum_below (length I.exams) (λ e. exam_period I (place_of T e))

-- the room part: the penalties of the rooms of all exams of the session
abbrev pub room_part : Session → Placing → ℕ
room_part I T = sum_below (length I.exams) (λ e. exam_room I (place_of T e))

-- ---- the whole

-- the parts of pairs of exams
abbrev pub pair_parts : Session → Enrolled → Placing → PersonalPenalty
pair_parts I E T = by_kind (λ k. pair_part (cost_in I k) E (period_of T))

-- all eight parts
abbrev pub track : Session → Enrolled → Placing → Penalty
track I E T =
    with_pairs (pair_parts I E T) (mixed_part I T) (front_part I E T) (period_part I T)
    (room_part I T)
