-- Every place of a session, with the least breach or the penalty that an exam has there.
use Rattle.std.specs.Prelude.{ℕ, List, [], ◌∷◌, length, map, Option, Some, None, Result, Ok, Err, slice_set}
use Rattle.std.specs.List.{flat_map, range_with_len}
use Rattle.exam_terms.specs.declared.place.Place.{Place}
use Rattle.exam_model.specs.Instance.{Session}
use Rattle.exam_model.specs.Enrolments.{Enrolled}
use Rattle.exam_model.specs.Timetable.{Placing}
use Rattle.exam_rules.specs.declared.breach.Breach.{Breach}
use Rattle.exam_rules.specs.Breaches.{least_breach_of}
use Rattle.exam_score.specs.Penalty.{total_of}
use Rattle.exam_score.specs.Track.{track}
use Rattle.exam_draft.specs.declared.fault.EditFault.TheVariants.{Broken}
use Rattle.exam_places.specs.declared.place_row.PlaceRow.{PlaceRow}
use Rattle.exam_places.specs.Answers.{Answered, place}

-- a total penalty, or the least breach
abbrev pub PlaceAnswer : Type 0
PlaceAnswer = Result ℕ Breach

-- the least breach, if there is one, else the penalty
abbrev pub breach_or : Option Breach → ℕ → PlaceAnswer
breach_or None penalty = Ok penalty
breach_or (Some breach) penalty = Err breach

-- the least breach that names the exam at this place, else the total penalty with it there
abbrev pub place_answer : Session → Enrolled → Placing → ℕ → Place → PlaceAnswer
place_answer I E T e at =
    breach_or (least_breach_of I E (slice_set T e (Some at)) (e ∷ []))
    (total_of (track I E (slice_set T e (Some at))))

-- a place with its answer
abbrev pub place_row : Session → Enrolled → Placing → ℕ → ℕ → ℕ → PlaceRow
place_row I E T e p r =
    record { period = p; room = r; answer = place_answer I E T e (place p r) }

-- the places of one period, by room
abbrev pub period_places : Session → Enrolled → Placing → ℕ → ℕ → List PlaceRow
period_places I E T e p = map (place_row I E T e p) (range_with_len 0 (length I.rooms))

-- every place, by period and then by room
abbrev pub places_of : Session → Enrolled → Placing → ℕ → List PlaceRow
places_of I E T e = flat_map (period_places I E T e) (range_with_len 0 (length I.periods))

-- an answer as that of an edit: a breach refuses the edit
abbrev pub edit_answer : PlaceAnswer → Answered
edit_answer (Ok penalty) = Ok penalty
edit_answer (Err breach) = Err (Broken breach)
