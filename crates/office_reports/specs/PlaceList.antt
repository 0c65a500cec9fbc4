-- The text of the place list: a heading, then a line for each place.
use Rattle.std.specs.Prelude.{ℕ, ◌++◌, ◌∷◌, [], List, codes, decimal, Ok, Err}
use Rattle.std.specs.List.{flat_map}
use Rattle.exam_places.specs.Places.{PlaceAnswer}
use Rattle.exam_places.specs.declared.place_row.PlaceRow.{PlaceRow}
use Rattle.office_reports.specs.Reports.{rule_name}

-- the end of a place's line: the penalty and three empty fields, or an empty field and the breach
abbrev pub answer_text : PlaceAnswer → List ℕ
answer_text (Ok penalty) = decimal penalty ++ codes ",,,\n"
answer_text (Err breach) = 44 ∷ rule_name breach.rule ++ 44 ∷ decimal breach.exam
    ++ 44 ∷ decimal breach.other ++ 10 ∷ []

-- a place's line: its period, its room and its answer, with commas between
abbrev pub place_line : PlaceRow → List ℕ
place_line row = decimal row.period ++ 44 ∷ decimal row.room ++ 44 ∷ answer_text row.answer

-- the place list: a heading, then the places in their order
abbrev pub places_text : List PlaceRow → List ℕ
places_text rows = codes "period,room,penalty,rule,exam,other\n" ++ flat_map place_line rows
