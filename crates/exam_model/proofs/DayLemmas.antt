-- The order of two dates doesn't matter.
use Rattle.std.proofs.Common.{◌≡◌, ℕ, List, Option, Some, None, refl, ap, arith}
use Rattle.std.specs.Prelude.{◌==◌, slice_get, ℤ, ◌-ℤ◌, unsigned_abs}
use Rattle.std.proofs.lemmas.Int.{ints}
use Rattle.exam_lists.proofs.Booleans.{eqb_swap}
use Rattle.exam_calendar.specs.Dates.{are_a_day_apart, day_number, is_same_date}
use Rattle.exam_calendar.specs.declared.date.Date.{Date}
use Rattle.exam_model.specs.Distances.{have_next_dates, next_day, is_same_day, share_date}
use Rattle.exam_model.specs.declared.parts.Period.{Period}

is_same_date-swap : (a b : Date) → is_same_date a b ≡ is_same_date b a
is_same_date-swap a b =
    rw (eqb_swap a.year b.year, eqb_swap a.month b.month, eqb_swap a.day b.day) refl

share_date-swap : (p q : Option Period) → share_date p q ≡ share_date q p
share_date-swap None None = refl
share_date-swap None (Some q) = refl
share_date-swap (Some p) None = refl
share_date-swap (Some p) (Some q) = is_same_date-swap p.date q.date

pub is_same_day-swap : (periods : List Period) (p q : ℕ) → is_same_day periods p q
    ≡ is_same_day periods q p
is_same_day-swap periods p q = share_date-swap (slice_get periods p) (slice_get periods q)

days-swap : (m n : ℤ) → unsigned_abs (m -ℤ n) ≡ unsigned_abs (n -ℤ m)
days-swap m n = omega (arith, ints)

are_a_day_apart-swap : (a b : Date) → are_a_day_apart a b ≡ are_a_day_apart b a
are_a_day_apart-swap a b = ap (λ n. n == 1) (days-swap (day_number a) (day_number b))

have_next_dates-swap : (p q : Option Period) → have_next_dates p q ≡ have_next_dates q p
have_next_dates-swap None None = refl
have_next_dates-swap None (Some q) = refl
have_next_dates-swap (Some p) None = refl
have_next_dates-swap (Some p) (Some q) = are_a_day_apart-swap p.date q.date

pub next_day-swap : (periods : List Period) (p q : ℕ) → next_day periods p q ≡ next_day periods q p
next_day-swap periods p q = have_next_dates-swap (slice_get periods p) (slice_get periods q)
