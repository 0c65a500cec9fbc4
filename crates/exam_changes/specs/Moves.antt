-- The exams whose place differs between two timetables, and who is enrolled in them.
use Rattle.std.specs.Prelude.{ℕ, Bool, false, true, not, List, None, Option, Some, filter, length, map}
use Rattle.std.specs.List.{flat_map, range_with_len}
use Rattle.exam_terms.specs.declared.place.Place.{Place}
use Rattle.exam_model.specs.Enrolments.{Enrolled, students}
use Rattle.exam_model.specs.Timetable.{Placing, place_of}
use Rattle.exam_rules.specs.Places.{is_one_place}
use Rattle.exam_publish.specs.Changed.{sorted_numbers}
use Rattle.exam_changes.specs.declared.moved_exams.Move.{Move}

-- whether both are one period and room, or both none
abbrev pub is_same_place : Option Place → Option Place → Bool
is_same_place None None = true
is_same_place None (Some to) = false
is_same_place (Some from) None = false
is_same_place (Some from) (Some to) = is_one_place from to

-- an exam with its places in two timetables
abbrev pub move_of : Placing → Placing → ℕ → Move
move_of A B e = record { exam = e; from = place_of A e; to = place_of B e }

-- whether the two places differ
abbrev pub is_move : Move → Bool
is_move m = not (is_same_place m.from m.to)

-- the exams whose place differs, ascending
abbrev pub moves : Placing → Placing → List Move
moves A B = filter is_move (map (move_of A B) (range_with_len 0 (length A)))

-- the candidates who are enrolled in one of these exams, ascending, each once
abbrev pub candidates_of : Enrolled → List Move → List ℕ
candidates_of E ms = sorted_numbers (flat_map (λ m. students E m.exam) ms)
