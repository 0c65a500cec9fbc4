-- Two timetables that differ at some exams.
use Rattle.std.specs.Prelude.{◌≡◌, ℕ, false, List}
use Rattle.exam_model.specs.Enrolments.{has_number}
use Rattle.exam_model.specs.Timetable.{Placing, place_of}

-- every other exam has the same place in the new timetable as in the old one
abbrev pub DiffersAtMost : List ℕ → Placing → Placing → Type 0
DiffersAtMost exams old new = (e : ℕ) → has_number exams e ≡ false → place_of new e ≡ place_of old e
