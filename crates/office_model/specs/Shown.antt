-- What a candidate sees of their view.
use Rattle.std.specs.Prelude.{ℕ, ◌==◌, List, [], ◌∷◌, Option, option_map, option_and_then, slice_get}
use Rattle.std.specs.List.{find, list_any}
use Rattle.exam_terms.specs.declared.place.Place.{Place}
use Rattle.exam_model.specs.declared.parts.Period.{Period}
use Rattle.exam_publish.specs.Shares.{share_of}
use Rattle.exam_score.specs.Penalty.{PersonalPenalty}
use Rattle.office_model.specs.declared.views.ShownPlace.{ShownPlace}
use Rattle.office_model.specs.declared.views.ViewRow.{ViewRow}
use Rattle.office_model.specs.Views.{View, candidate_exams}

-- a place with the day and the time of its period
abbrev pub shown_at : Place → Period → ShownPlace
shown_at at p = record {
  period = at.period;
  date = p.date;
  hour = p.hour;
  minute = p.minute;
  second = p.second;
  room = at.room;
}

-- a place's date, time and numbers, if the session has its period
abbrev pub shown_place : List Period → Place → Option ShownPlace
shown_place periods at = option_map (shown_at at) (slice_get periods at.period)

-- one of the candidate's exams: whether they are enrolled, its published place, and their seat
abbrev pub shown_exam : View → ℕ → Option Place → ViewRow
shown_exam view exam place = record {
  exam = exam;
  enrolled = list_any (λ e. e == exam) view.enrolled;
  at = option_and_then (shown_place view.periods) place;
  seat = option_map (λ row. row.seat) (find (λ row. row.exam == exam) view.seats);
}

-- these exams of the candidate, each with its place
abbrev pub shown_from : View → List ℕ → List (Option Place) → List ViewRow
shown_from view [] places = []
shown_from view (e ∷ exams) [] = []
shown_from view (e ∷ exams) (place ∷ places) =
    shown_exam view e place ∷ shown_from view exams places

-- the candidate's exams, ascending
abbrev pub shown_exams : View → List ViewRow
shown_exams view = shown_from view (candidate_exams view.enrolled view.seats) view.places

-- the cost of the periods of the candidate's seat rows
abbrev pub shown_penalty : View → PersonalPenalty
shown_penalty view = share_of view.periods view.weights view.seats

-- all that a candidate sees: their number, their exams, and the cost of these
pub record ShownView : Type 0 where
  pub student : ℕ
  pub exams : List ViewRow
  pub personal : PersonalPenalty

-- all that a candidate sees of their view
abbrev pub shown_to : ℕ → View → ShownView
shown_to s view = record {
  student = s;
  exams = shown_exams view;
  personal = shown_penalty view;
}
