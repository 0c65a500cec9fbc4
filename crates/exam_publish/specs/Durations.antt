-- The durations of each room and period, by stays.
use Rattle.std.specs.Prelude.{◌≡◌, ℕ, ◌+◌, ◌*◌, ◌<◌, ◌≤◌, Bool, ◌==◌, List, length, slice_index}
use Rattle.exam_model.specs.Fits.{slot_of}
use Rattle.exam_model.specs.Instance.{Session}
use Rattle.exam_model.specs.Timetable.{Placing}
use Rattle.exam_terms.specs.declared.limits.TheConstants.{MAX_EXAMS}
use Rattle.exam_terms.specs.declared.place.Place.{Place}
use Rattle.exam_score.specs.MixedDurations.{durations}
use Rattle.exam_score.specs.declared.mixed.PlacedDuration.{PlacedDuration}

-- a stay's place
abbrev pub stay_place : PlacedDuration → Place
stay_place x = record { period = x.period; room = x.room }

-- whether a stay's place has this index in a table
abbrev pub is_in_slot : Session → ℕ → PlacedDuration → Bool
is_in_slot I k x = slot_of (length I.rooms) (stay_place x) == k

-- each place's entry is the number of different durations there
pub record AreDurations (I : Session) (T : Placing) (kinds : List ℕ) : Type 0 where
  pub count : length kinds ≡ length I.periods * length I.rooms
  pub each : (p r : ℕ) → p < length I.periods → r < length I.rooms
      → slice_index kinds (p * length I.rooms + r) ≡ durations I T p r
  pub small : (k : ℕ) → slice_index kinds k ≤ MAX_EXAMS
