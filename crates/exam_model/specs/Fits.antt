-- Arguments fit each other: they have the same number of exams, and all places exist.
use Rattle.std.specs.Prelude.{◌≡◌, ℕ, ◌+◌, ◌*◌, ◌<◌, length, All, Option, Some, None, option_map}
use Rattle.exam_terms.specs.declared.place.Place.{Place}
use Rattle.exam_model.specs.Instance.{Session}
use Rattle.exam_model.specs.Enrolments.{Enrolled}
use Rattle.exam_model.specs.Timetable.{Placing, place_of}

-- the period of an exam, if it is placed
abbrev pub period_of : Placing → ℕ → Option ℕ
period_of T e = option_map (λ at. at.period) (place_of T e)

-- a place is missing, or its period and room exist
abbrev pub PlaceExists : Session → Option Place → Type 0
PlaceExists I None = Unit {0}
PlaceExists I (Some at) = (at.period < length I.periods) × (at.room < length I.rooms)

-- the index of a place in a table with a row of this many rooms for each period
abbrev pub slot_of : ℕ → Place → ℕ
slot_of rooms at = at.period * rooms + at.room

-- the timetable has as many exams as the session, and every place in it exists
pub record Suits (I : Session) (T : Placing) : Type 0 where
  pub exams : length T ≡ length I.exams
  pub places : All (PlaceExists I) T

-- the three have the same number of exams, and the places in the timetable exist
pub record Fits (I : Session) (E : Enrolled) (T : Placing) : Type 0 where
  pub enrolments : length E ≡ length I.exams
  pub timetable : length T ≡ length I.exams
  pub places : All (PlaceExists I) T
