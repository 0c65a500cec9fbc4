-- Tables with an entry for each room and period, and the lines of the rooms report by them.
use Rattle.std.specs.Prelude.{◌≡◌, ℕ, ◌*◌, ◌<◌, [], List, length, filter, slice_get, slice_index, slice_index_or}
use Rattle.std.specs.List.{flat_map, range_with_len}
use Rattle.exam_terms.specs.declared.place.Place.{Place}
use Rattle.exam_model.specs.Fits.{slot_of}
use Rattle.exam_model.specs.Instance.{Session}
use Rattle.exam_model.specs.Timetable.{Placing, place_of}
use Rattle.exam_rules.specs.Places.{is_one_place, place_satisfies}
use Rattle.office_reports.specs.Rooms.{capacity_of, line_with, place}

-- the exams below i that are in a place, ascending
abbrev pub exams_below : Placing → ℕ → Place → List ℕ
exams_below T i at =
    filter (λ e. place_satisfies (is_one_place at) (place_of T e)) (range_with_len 0 i)

-- the table has the value of each room and period, by period and then by room
pub record IsTable {X : Type 0} (I : Session) (none : X) (value : Place → X)
    (table : List X) : Type 0 where
  pub count : length table ≡ length I.periods * length I.rooms
  pub each : (p : Place) → p.period < length I.periods → p.room < length I.rooms
      → slice_index_or table (slot_of (length I.rooms) p) none ≡ value p

-- the line of a place, by a table of the exams and one of the seats
abbrev pub entry_line : Session → List (List ℕ) → List ℕ → Place → List ℕ
entry_line I exams seats at =
    line_with at (slice_index seats (slot_of (length I.rooms) at))
    (capacity_of (slice_get I.rooms at.room))
    (slice_index_or exams (slot_of (length I.rooms) at) [])

-- the lines of a period by the tables, by room
abbrev pub entry_lines : Session → List (List ℕ) → List ℕ → ℕ → List ℕ
entry_lines I exams seats p =
    flat_map (λ r. entry_line I exams seats (place p r)) (range_with_len 0 (length I.rooms))
