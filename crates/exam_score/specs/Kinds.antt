-- The kinds of costs of two exams of one student.
use Rattle.std.specs.Prelude.{ℕ, List}
use Rattle.exam_model.specs.Instance.{Session}
use Rattle.exam_model.specs.declared.parts.Period.{Period}
use Rattle.exam_model.specs.declared.parts.Weights.{Weights}
use Rattle.exam_score.specs.Cost.{row_cost, day_cost, spread_cost, night_cost}
use Rattle.exam_score.specs.Penalty.{PersonalPenalty}
use Rattle.exam_score.specs.declared.amounts.Amounts.{Amounts}

-- ---- the kinds

-- the kinds whose costs are in the table of periods
pub data TableKind : Type 0 where
  in_row : TableKind
  in_day : TableKind
  in_spread : TableKind

-- all four kinds
pub data Kind : Type 0 where
  in_table : TableKind → Kind
  over_night : Kind

-- the cost of two periods
abbrev pub kind_cost : List Period → Weights → Kind → ℕ → ℕ → ℕ
kind_cost periods weights (in_table in_row) = row_cost periods weights
kind_cost periods weights (in_table in_day) = day_cost periods weights
kind_cost periods weights (in_table in_spread) = spread_cost periods weights
kind_cost periods weights over_night = night_cost periods weights

-- the cost of two periods of a session
abbrev pub cost_in : Session → Kind → ℕ → ℕ → ℕ
cost_in I k = kind_cost I.periods I.weights k

-- the same for a kind of the table
abbrev pub table_cost : Session → TableKind → ℕ → ℕ → ℕ
table_cost I k = cost_in I (in_table k)

-- ---- amounts of the kinds of the table

-- the amount of a kind of the table
abbrev pub table_amount : Amounts ℕ → TableKind → ℕ
table_amount a in_row = a.row
table_amount a in_day = a.day
table_amount a in_spread = a.spread

-- the amounts that a function gives for the kinds of the table
abbrev pub by_table : (TableKind → ℕ) → Amounts ℕ
by_table f = record { row = f in_row; day = f in_day; spread = f in_spread }

-- a fact holds for each kind of the table
abbrev pub EachInTable : (TableKind → Type 0) → Type 0
EachInTable P = P in_row × P in_day × P in_spread

-- ---- amounts of all kinds

-- the amounts of the table, and that of night
abbrev pub with_night : Amounts ℕ → ℕ → PersonalPenalty
with_night a night = record { row = a.row; day = a.day; spread = a.spread; night = night }

-- the amount of a kind
abbrev pub amount : PersonalPenalty → Kind → ℕ
amount p (in_table k) = table_amount (record { row = p.row; day = p.day; spread = p.spread }) k
amount p over_night = p.night

-- the amounts that a function gives for all kinds
abbrev pub by_kind : (Kind → ℕ) → PersonalPenalty
by_kind f = with_night (by_table (λ k. f (in_table k))) (f over_night)

-- a fact holds for each kind
abbrev pub EachKind : (Kind → Type 0) → Type 0
EachKind P = P (in_table in_row) × P (in_table in_day) × P (in_table in_spread) × P over_night
