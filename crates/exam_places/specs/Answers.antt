-- What the edit that puts an exam at a place answers, for every place of a session.
use Rattle.std.specs.Prelude.{ℕ, if◌then◌else◌, List, length, map, Result, Ok, Err}
use Rattle.std.specs.List.{flat_map, range_with_len}
use Rattle.exam_terms.specs.declared.place.Place.{Place}
use Rattle.exam_model.specs.Instance.{Session}
use Rattle.exam_model.specs.Enrolments.{Enrolled}
use Rattle.exam_model.specs.Timetable.{Placing}
use Rattle.exam_score.specs.Penalty.{total_of}
use Rattle.exam_score.specs.Track.{track}
use Rattle.exam_draft.specs.declared.edit.Edit.{Edit}
use Rattle.exam_draft.specs.declared.edit.Edit.TheVariants as edit
use Rattle.exam_draft.specs.declared.fault.EditFault.{EditFault}
use Rattle.exam_draft.specs.Edits.{Edited, edit_result, is_placed}

-- the place with these numbers
abbrev pub place : ℕ → ℕ → Place
place p r = record { period = p; room = r }

-- the edit that puts an exam at a place: a placed exam is moved, an unplaced one is placed
abbrev pub put_edit : Placing → ℕ → Place → Edit
put_edit T e at = if is_placed T e then edit.Move e at else edit.Place e at

-- the total penalty after an edit, or the edit's refusal
abbrev pub Answered : Type 0
Answered = Result ℕ EditFault

-- the answer to an edit with this result
abbrev pub answer_to : Session → Enrolled → Edited → Answered
answer_to I E (Ok T) = Ok (total_of (track I E T))
answer_to I E (Err fault) = Err fault

-- the answer to the edit that puts the exam at this place
abbrev pub answer_at : Session → Enrolled → Placing → ℕ → Place → Answered
answer_at I E T e at = answer_to I E (edit_result I E T (put_edit T e at))

-- the answers for one period, by room
abbrev pub period_answers : Session → Enrolled → Placing → ℕ → ℕ → List Answered
period_answers I E T e p =
    map (λ r. answer_at I E T e (place p r)) (range_with_len 0 (length I.rooms))

-- the answers for every place, by period and then by room
abbrev pub answers_of : Session → Enrolled → Placing → ℕ → List Answered
answers_of I E T e = flat_map (period_answers I E T e) (range_with_len 0 (length I.periods))
