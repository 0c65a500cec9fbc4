use Rattle.std.proofs.Common.{◌≡◌, ◌++◌, [], ℕ, List, codes, append_assoc}
use Rattle.exam_score.specs.Penalty.{Penalty, total_of}
use Rattle.office_reports.specs.Reports.{number_line, penalty_text}
use Rattle.office_reports.proofs.reports.penalty_report.Goals as goal

-- nine lines, one after the other
all_lines : (p : Penalty) (row day spread night mixed front period room total : ℕ)
    (t0 t1 t2 t3 t4 t5 t6 t7 t8 t9 : List ℕ) → t0 ≡ []
    → t1 ≡ t0 ++ number_line (codes "two in a row") row → row ≡ p.row
    → t2 ≡ t1 ++ number_line (codes "two in a day") day → day ≡ p.day
    → t3 ≡ t2 ++ number_line (codes "period spread") spread → spread ≡ p.spread
    → t4 ≡ t3 ++ number_line (codes "over night") night → night ≡ p.night
    → t5 ≡ t4 ++ number_line (codes "mixed durations") mixed → mixed ≡ p.mixed
    → t6 ≡ t5 ++ number_line (codes "front load") front → front ≡ p.front
    → t7 ≡ t6 ++ number_line (codes "period penalty") period → period ≡ p.period
    → t8 ≡ t7 ++ number_line (codes "room penalty") room → room ≡ p.room
    → t9 ≡ t8 ++ number_line (codes "total") total → total ≡ total_of p
    → t9 ≡ penalty_text p
all_lines p row day spread night mixed front period room total t0 t1 t2 t3 t4 t5 t6 t7 t8 t9
    e0 e1 f1 e2 f2 e3 f3 e4 f4 e5 f5 e6 f6 e7 f7 e8 f8 e9 f9 =
    rw (e9, e8, e7, e6, e5, e4, e3, e2, e1, e0, f1, f2, f3, f4, f5, f6, f7, f8, f9)
    (simp append_assoc)

pub returns : goal.returns
returns c =
    all_lines c.args.parts _ _ _ _ _ _ _ _ _ _ _ _ _ _ _ _ _ _ _ c.in_ok-text.ensures.bytes
    c.in_ok-add_number.ensures c.row.ensures c.in_ok-add_number-2.ensures c.day.ensures
    c.in_ok-add_number-3.ensures c.spread.ensures c.in_ok-add_number-4.ensures c.night.ensures
    c.in_ok-add_number-5.ensures c.mixed.ensures c.in_ok-add_number-6.ensures c.front.ensures
    c.in_ok-add_number-7.ensures c.period.ensures c.in_ok-add_number-8.ensures c.room.ensures
    c.in_ok-add_number-9.ensures c.total.ensures.total
