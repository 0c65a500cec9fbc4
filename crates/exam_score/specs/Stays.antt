-- Placed exams by period, room and minutes.
use Rattle.std.specs.Prelude.{◌≡◌, ℕ, ◌<◌, ◌≤◌, Bool, ◌&&◌, ◌==◌, not, if◌then◌else◌, ◌+◌, List, [], ◌∷◌, length, count_by, All}
use Rattle.exam_terms.specs.declared.limits.TheConstants.{MAX_EXAMS, MAX_MINUTES}
use Rattle.exam_model.specs.Instance.{Session}
use Rattle.exam_model.specs.Timetable.{Placing}
use Rattle.exam_score.specs.MixedDurations.{exams_with_duration}
use Rattle.exam_score.specs.declared.mixed.PlacedDuration.{PlacedDuration}

-- whether a stay has this period, room and duration
abbrev pub is_stay : ℕ → ℕ → ℕ → PlacedDuration → Bool
is_stay p r m x = ((x.period == p) && (x.room == r)) && (x.minutes == m)

-- the period, the room and the duration of a stay exist
pub record StayExists (I : Session) (x : PlacedDuration) : Type 0 where
  pub period : x.period < length I.periods
  pub room : x.room < length I.rooms
  pub minutes : x.minutes ≤ MAX_MINUTES

-- one stay for each placed exam
pub record AreStays (I : Session) (T : Placing) (stays : List PlacedDuration) : Type 0 where
  pub counts : (p r m : ℕ) → count_by (is_stay p r m) stays ≡ exams_with_duration I T p r m
  pub few : length stays ≤ MAX_EXAMS
  pub exist : All (StayExists I) stays

-- x is not after y by period, then room, then minutes
pub record NotAfter (x y : PlacedDuration) : Type 0 where
  pub periods : x.period ≤ y.period
  pub rooms : x.period ≡ y.period → x.room ≤ y.room
  pub minutes : x.period ≡ y.period → x.room ≡ y.room → x.minutes ≤ y.minutes

-- 1 if the next stay has the same place and another duration, else 0
abbrev pub next_differs : PlacedDuration → List PlacedDuration → ℕ
next_differs x [] = 0
next_differs x (y ∷ ys) =
    if ((y.period == x.period) && (y.room == x.room)) && not (y.minutes == x.minutes) then 1 else 0

-- how many stays of a list are followed by one with the same place and another duration
abbrev pub further_durations : List PlacedDuration → ℕ
further_durations [] = 0
further_durations (x ∷ xs) = next_differs x xs + further_durations xs
