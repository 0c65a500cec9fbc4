-- A table of the students in each room and period, period by period.
use Rattle.std.specs.Prelude.{◌≡◌, ℕ, ◌*◌, ◌^◌, ◌<◌, ◌≤◌, List, length, slice_index}
use Rattle.exam_model.specs.Enrolments.{Enrolled}
use Rattle.exam_model.specs.Fits.{slot_of}
use Rattle.exam_model.specs.Timetable.{Placing}
use Rattle.exam_terms.specs.declared.place.Place.{Place}
use Rattle.exam_rules.specs.Places.{load_below}

-- the table has each place's load by the exams below i
pub record AreLoads (E : Enrolled) (T : Placing) (periods rooms i : ℕ)
    (loads : List ℕ) : Type 0 where
  pub count : length loads ≡ periods * rooms
  pub each : (p : Place) → p.period < periods → p.room < rooms
      → slice_index loads (slot_of rooms p) ≡ load_below E T p i
  -- no entry is near the limit of its type
  pub small : (k : ℕ) → slice_index loads k ≤ i * 2 ^ 32
