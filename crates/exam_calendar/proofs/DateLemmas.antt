-- The ranges of the numbers in a date that exists.
use Rattle.std.proofs.Common.{◌≡◌, ℕ, ℤ, pos, ◌≤◌, Bool, true, false, arith}
use Rattle.std.specs.Prelude.{◌&&◌, ◌||◌, ◌==◌, if◌then◌else◌, nat_le}
use Rattle.std.specs.Int.{IsInRange}
use Rattle.std.proofs.lemmas.Bool.{leb-true, and_parts}
use Rattle.jiff_core.specs.Calendar.{days_in_month, is_leap_year}
use Rattle.exam_calendar.specs.Dates.{is_within, is_civil}
use Rattle.exam_calendar.specs.declared.date.Date.{Date}

-- a number that passes the test of a range is in it
in_range : (low high n : ℕ) → is_within low high n ≡ true → IsInRange low high n
in_range low high n e =
    let both = and_parts (nat_le low n) (nat_le n high) e in
    (leb-true low n both.0, leb-true n high both.1)

-- no month has more than 31 days
month_most : (y : ℤ) (m : ℕ) → days_in_month y m ≤ 31
month_most y m =
    if_le (m == 2) (if is_leap_year y then 29 else 28)
    (if (m == 4) || (m == 6) || (m == 9) || (m == 11) then 30 else 31) 31
    (if_le (is_leap_year y) 29 28 31 (omega arith) (omega arith))
    (if_le ((m == 4) || (m == 6) || (m == 9) || (m == 11)) 30 31 31 (omega arith) (omega arith))
  where
    if_le : (b : Bool) (x y n : ℕ) → x ≤ n → y ≤ n → (if b then x else y) ≤ n
    if_le true x y n xs ys = xs
    if_le false x y n xs ys = ys

pub date_ranges : (d : Date) → is_civil d ≡ true →
    IsInRange 1 9999 d.year × IsInRange 1 12 d.month × IsInRange 1 31 d.day
date_ranges d e =
    let last = days_in_month (pos d.year) d.month in
    let of_month = is_within 1 last d.day in
    let year = and_parts (is_within 1 9999 d.year) (is_within 1 12 d.month && of_month) e in
    let month = and_parts (is_within 1 12 d.month) of_month year.1 in
    let day = in_range 1 last d.day month.1 in (
      in_range 1 9999 d.year year.0,
      in_range 1 12 d.month month.0,
      (day.0, omega (arith, day.1, month_most (pos d.year) d.month)),
    )
