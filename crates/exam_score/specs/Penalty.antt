-- Penalties as numbers.
use Rattle.std.specs.Prelude.{ℕ, ◌+◌}

-- the cost of the pairs of one student's exams
pub record PersonalPenalty : Type 0 where
  pub row : ℕ
  pub day : ℕ
  pub spread : ℕ
  pub night : ℕ

-- all four together
abbrev pub personal_total : PersonalPenalty → ℕ
personal_total p = p.row + p.day + p.spread + p.night

-- two of them together, part by part
abbrev pub penalty_sum : PersonalPenalty → PersonalPenalty → PersonalPenalty
penalty_sum a b = record {
  row = a.row + b.row;
  day = a.day + b.day;
  spread = a.spread + b.spread;
  night = a.night + b.night;
}

-- the eight parts of a timetable's penalty
pub record Penalty : Type 0 where
  pub row : ℕ
  pub day : ℕ
  pub spread : ℕ
  pub night : ℕ
  pub mixed : ℕ
  pub front : ℕ
  pub period : ℕ
  pub room : ℕ

-- the parts of pairs and the others as one penalty
abbrev pub with_pairs : PersonalPenalty → ℕ → ℕ → ℕ → ℕ → Penalty
with_pairs pairs mixed front period room = record {
  row = pairs.row;
  day = pairs.day;
  spread = pairs.spread;
  night = pairs.night;
  mixed = mixed;
  front = front;
  period = period;
  room = room;
}

-- its parts of pairs
abbrev pub pairs_in : Penalty → PersonalPenalty
pairs_in p = record { row = p.row; day = p.day; spread = p.spread; night = p.night }

-- all eight together
abbrev pub total_of : Penalty → ℕ
total_of p = p.row + p.day + p.spread + p.night + p.mixed + p.front + p.period + p.room
