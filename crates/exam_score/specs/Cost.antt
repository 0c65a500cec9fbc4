-- The cost of two exams of one student by their periods (ITC 2007, soft constraints).
use Rattle.std.specs.Prelude.{ℕ, Bool, ◌&&◌, ◌==◌, nat_lt, nat_le, List, length, if◌then◌else◌}
use Rattle.exam_model.specs.Distances.{gap, next_day, is_same_day}
use Rattle.exam_model.specs.declared.parts.Period.{Period}
use Rattle.exam_model.specs.declared.parts.Weights.{Weights}

-- two in a row: adjacent periods of one day, and nothing over night
abbrev pub row_cost : List Period → Weights → ℕ → ℕ → ℕ
row_cost periods weights p q = if is_same_day periods p q && (gap p q == 1) then weights.row else 0

-- two in a day: periods of one day that are neither the same nor adjacent
abbrev pub day_cost : List Period → Weights → ℕ → ℕ → ℕ
day_cost periods weights p q = if is_same_day periods p q && nat_le 2
    (gap p q) then weights.day else 0

-- two different periods, no further apart than the spread
abbrev pub is_within_spread : List Period → Weights → ℕ → ℕ → Bool
is_within_spread periods weights p q =
    (nat_lt p (length periods) && nat_lt q (length periods))
    && (nat_le 1 (gap p q) && nat_le (gap p q) weights.spread)

-- 1 for each such pair, also over nights, and also if it costs a row or a day
abbrev pub spread_cost : List Period → Weights → ℕ → ℕ → ℕ
spread_cost periods weights p q = if is_within_spread periods weights p q then 1 else 0

-- over night: adjacent periods whose dates are one day apart, in either order
abbrev pub night_cost : List Period → Weights → ℕ → ℕ → ℕ
night_cost periods weights p q = if next_day periods p q && (gap p q == 1) then weights.night else 0
