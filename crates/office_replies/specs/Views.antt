-- A draft, as JSON.
use Rattle.std.specs.Prelude.{ℕ, List, map, length, codes, Option, Some, None, option_map}
use Rattle.std.specs.List.{range_with_len}
use Rattle.serde_json.specs.Data.{Data, null, number, unsigned, array, object, member, no_members}
use Rattle.serde_json.specs.View.{items_of}
use Rattle.serde_json.specs.Written.{compact_text}
use Rattle.exam_terms.specs.declared.place.Place.{Place}
use Rattle.exam_model.specs.Timetable.{Placing, place_of}

-- a number in JSON
abbrev pub json_number : ℕ → Data
json_number n = number (unsigned n)

-- a number, or null if there is none
abbrev pub or_null : Option ℕ → Data
or_null None = null
or_null (Some n) = json_number n

-- an exam and its place; period and room are null if it has none
abbrev pub exam_data : ℕ → Option Place → Data
exam_data e at = object
    (member (codes "exam") (json_number e)
    (member (codes "period") (or_null (option_map (λ at. at.period) at))
    (member (codes "room") (or_null (option_map (λ at. at.room) at)) no_members)))

-- the exams of a timetable, by their numbers
abbrev pub exams_data : Placing → List Data
exams_data T = map (λ e. exam_data e (place_of T e)) (range_with_len 0 (length T))

-- a draft: its number, its exams, its penalty
abbrev pub draft_data : ℕ → Placing → ℕ → Data
draft_data d T penalty = object
    (member (codes "draft") (json_number d)
    (member (codes "exams") (array (items_of (exams_data T)))
    (member (codes "penalty") (json_number penalty) no_members)))

-- a draft, the place of each exam and its penalty, as text
abbrev pub draft_text : ℕ → Placing → ℕ → List ℕ
draft_text d T penalty = compact_text (draft_data d T penalty)
