-- How a day and a time of day are shown to candidates.
use Rattle.std.specs.Prelude.{ℕ, ◌-◌, ◌++◌, List, length, replicate, codes, decimal}
use Rattle.exam_calendar.specs.declared.date.Date.{Date}
use Rattle.office_model.specs.declared.views.ShownPlace.{ShownPlace}

-- a number with at least this many digits, with zeros in front
abbrev pub zero_padded : ℕ → ℕ → List ℕ
zero_padded width n = replicate (width - length (decimal n)) 48 ++ decimal n

-- YYYY-MM-DD
abbrev pub date_text : Date → List ℕ
date_text d =
    zero_padded 4 d.year ++ codes "-" ++ zero_padded 2 d.month ++ codes "-"
    ++ zero_padded 2 d.day

-- HH:MM:SS
abbrev pub start_text : ShownPlace → List ℕ
start_text at =
    zero_padded 2 at.hour ++ codes ":" ++ zero_padded 2 at.minute ++ codes ":"
    ++ zero_padded 2 at.second
