-- A candidate's view, as JSON.
use Rattle.std.specs.Prelude.{ℕ, Bool, true, false, List, map, codes, Option, Some, None, option_map}
use Rattle.serde_json.specs.Data.{Data, null, string, array, object, member, no_members}
use Rattle.serde_json.specs.Written.{compact_text}
use Rattle.exam_score.specs.Penalty.{PersonalPenalty, personal_total}
use Rattle.office_model.specs.declared.views.ViewRow.{ViewRow}
use Rattle.serde_json.specs.View.{items_of}
use Rattle.office_replies.specs.Views.{json_number, or_null}
use Rattle.office_replies.specs.DayTexts.{date_text, start_text}

-- a text, or null if there is none
abbrev pub text_or_null : Option (List ℕ) → Data
text_or_null None = null
text_or_null (Some text) = string text

-- enrolled with a seat, enrolled without one, or no longer enrolled
abbrev pub state_text : Bool → Option ℕ → List ℕ
state_text true (Some seat) = codes "seated"
state_text true None = codes "pending"
state_text false seat = codes "withdrawn"

-- one of the candidate's exams: the date, the place and the start are null if it is not published,
-- and the seat is null if they have none
abbrev pub exam_data : ViewRow → Data
exam_data row = object
    (member (codes "date") (text_or_null (option_map (λ at. date_text at.date) row.at))
    (member (codes "exam") (json_number row.exam)
    (member (codes "period") (or_null (option_map (λ at. at.period) row.at))
    (member (codes "room") (or_null (option_map (λ at. at.room) row.at))
    (member (codes "seat") (or_null row.seat)
    (member (codes "start") (text_or_null (option_map start_text row.at))
    (member (codes "state") (string (state_text row.enrolled row.seat)) no_members)))))))

-- a candidate: their number, their exams, and the cost of these
abbrev pub candidate_data : ℕ → List ViewRow → PersonalPenalty → Data
candidate_data s rows penalty = object
    (member (codes "candidate") (json_number s)
    (member (codes "exams") (array (items_of (map exam_data rows)))
    (member (codes "penalty") (json_number (personal_total penalty)) no_members)))

-- the cost of the candidate's exams, and its total
abbrev pub cost_data : PersonalPenalty → Data
cost_data penalty = object
    (member (codes "day") (json_number penalty.day)
    (member (codes "night") (json_number penalty.night)
    (member (codes "penalty") (json_number (personal_total penalty))
    (member (codes "row") (json_number penalty.row)
    (member (codes "spread") (json_number penalty.spread) no_members)))))

-- one of the candidate's exams, as text
abbrev pub exam_text : ViewRow → List ℕ
exam_text row = compact_text (exam_data row)

-- the candidate's exams and the cost of these, as text
abbrev pub candidate_text : ℕ → List ViewRow → PersonalPenalty → List ℕ
candidate_text s rows penalty = compact_text (candidate_data s rows penalty)

-- the cost of the candidate's exams, as text
abbrev pub cost_text : PersonalPenalty → List ℕ
cost_text penalty = compact_text (cost_data penalty)
