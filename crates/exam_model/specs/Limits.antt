-- The limits of the numbers in an instance.
use Rattle.std.specs.Prelude.{ℕ, ◌≤◌, IsTrue}
use Rattle.exam_terms.specs.declared.limits.TheConstants.{MAX_AMOUNT, MAX_EXAMS, MAX_MINUTES, MAX_PERIODS, MAX_ROOMS, MAX_RULES}
use Rattle.exam_calendar.specs.Dates.{is_civil}
use Rattle.exam_model.specs.declared.parts.Exam.{Exam}
use Rattle.exam_model.specs.declared.parts.Period.{Period}
use Rattle.exam_model.specs.declared.parts.Room.{Room}
use Rattle.exam_model.specs.declared.parts.Weights.{Weights}

-- a capacity, a penalty, a weight, FRONTLOAD's number of exams or periods, or the period spread
abbrev pub IsAmount : ℕ → Type 0
IsAmount n = n ≤ MAX_AMOUNT

-- a duration within one day
abbrev pub IsMinutes : ℕ → Type 0
IsMinutes n = n ≤ MAX_MINUTES

-- the duration is within the limit
abbrev pub ExamInLimits : Exam → Type 0
ExamInLimits e = IsMinutes e.minutes

-- the date, the time of day, the duration and the penalty are within their limits
abbrev pub PeriodInLimits : Period → Type 0
PeriodInLimits p =
    IsTrue (is_civil p.date) × (p.hour ≤ 23) × (p.minute ≤ 59) × (p.second ≤ 59)
    × IsMinutes p.length × IsAmount p.penalty

-- the capacity and the penalty are within their limits
abbrev pub RoomInLimits : Room → Type 0
RoomInLimits r = IsAmount r.capacity × IsAmount r.penalty

-- each weight, and each other number of the weighting, is within the limit
abbrev pub WeightsInLimits : Weights → Type 0
WeightsInLimits w =
    IsAmount w.row × IsAmount w.day × IsAmount w.spread × IsAmount w.mixed
    × IsAmount w.front_exams × IsAmount w.front_periods × IsAmount w.front × IsAmount w.night

-- a count of at least one and at most the limit
abbrev pub IsCount : ℕ → ℕ → Type 0
IsCount limit n = (1 ≤ n) × (n ≤ limit)

-- the numbers of exams, periods, rooms, rules on periods and rules on rooms are within their limits
abbrev pub AreCounted : ℕ → ℕ → ℕ → ℕ → ℕ → Type 0
AreCounted exams periods rooms period_rules room_rules =
    IsCount MAX_EXAMS exams × IsCount MAX_PERIODS periods × IsCount MAX_ROOMS rooms
    × (period_rules ≤ MAX_RULES) × (room_rules ≤ MAX_RULES)
