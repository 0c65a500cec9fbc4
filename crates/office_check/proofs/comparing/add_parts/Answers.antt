use Rattle.std.proofs.Common.{codes, string_bytes}
use Rattle.exam_lists.proofs.Appended.{appended_twice}
use Rattle.office_check.proofs.CompareFacts.{line_told}
use Rattle.office_check.proofs.comparing.add_parts.Goals as goal

-- nine lines, one after the other
pub returns : goal.returns
returns c =
    let first = string_bytes c.args.text.now in
    appended_twice {t = string_bytes c.add_numbers-8.new.text} first _ _
    (appended_twice {t = string_bytes c.add_numbers-7.new.text} first _ _
    (appended_twice {t = string_bytes c.add_numbers-6.new.text} first _ _
    (appended_twice {t = string_bytes c.add_numbers-5.new.text} first _ _
    (appended_twice {t = string_bytes c.add_numbers-4.new.text} first _ _
    (appended_twice {t = string_bytes c.add_numbers-3.new.text} first _ _
    (appended_twice {t = string_bytes c.add_numbers-2.new.text} first _ _
    (appended_twice {t = string_bytes c.add_numbers.new.text} first _ _
    (line_told (codes "two in a row") _ _ _ _ _ _ c.in_ok-add_numbers.ensures
    c.row.ensures c.row-2.ensures)
    (line_told (codes "two in a day") _ _ _ _ _ _ c.in_ok-add_numbers-2.ensures
    c.day.ensures c.day-2.ensures))
    (line_told (codes "period spread") _ _ _ _ _ _ c.in_ok-add_numbers-3.ensures
    c.spread.ensures c.spread-2.ensures))
    (line_told (codes "over night") _ _ _ _ _ _ c.in_ok-add_numbers-4.ensures
    c.night.ensures c.night-2.ensures))
    (line_told (codes "mixed durations") _ _ _ _ _ _ c.in_ok-add_numbers-5.ensures
    c.mixed.ensures c.mixed-2.ensures))
    (line_told (codes "front load") _ _ _ _ _ _ c.in_ok-add_numbers-6.ensures
    c.front.ensures c.front-2.ensures))
    (line_told (codes "period penalty") _ _ _ _ _ _ c.in_ok-add_numbers-7.ensures
    c.period.ensures c.period-2.ensures))
    (line_told (codes "room penalty") _ _ _ _ _ _ c.in_ok-add_numbers-8.ensures
    c.room.ensures c.room-2.ensures))
    (line_told (codes "total") _ _ _ _ _ _ c.in_ok-add_numbers-9.ensures
    c.total.ensures.total c.total-2.ensures.total)
