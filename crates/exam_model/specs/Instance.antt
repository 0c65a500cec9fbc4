-- The parts of an instance: its exams, periods, rooms, rules and weights.
use Rattle.std.specs.Prelude.{ℕ, ◌<◌, List, length, All}
use Rattle.exam_model.specs.Limits.{AreCounted, ExamInLimits, PeriodInLimits, RoomInLimits, WeightsInLimits}
use Rattle.exam_model.specs.declared.parts.Exam.{Exam}
use Rattle.exam_model.specs.declared.parts.Period.{Period}
use Rattle.exam_model.specs.declared.parts.Room.{Room}
use Rattle.exam_model.specs.declared.parts.Weights.{Weights}
use Rattle.exam_model.specs.declared.rules.RoomRule.{RoomRule}
use Rattle.exam_model.specs.declared.rules.PeriodRule.{PeriodRule}
use Rattle.exam_model.specs.declared.rules.PeriodRule.TheVariants.{After, Coincidence, Exclusion}
use Rattle.exam_model.specs.declared.fault.ModelFault.{ModelFault}
use Rattle.exam_model.specs.declared.fault.ModelFault.TheVariants.{Range, NoSuch, NoMemory}

-- an examination session by its parts, each list in the order of its numbers
pub record Session : Type 0 where
  pub exams : List Exam
  pub periods : List Period
  pub rooms : List Room
  pub period_rules : List PeriodRule
  pub room_rules : List RoomRule
  pub weights : Weights

-- the session of these parts
abbrev pub session : List Exam → List Period → List Room → List PeriodRule → List RoomRule → Weights
    → Session
session exams periods rooms period_rules room_rules weights = record {
  exams = exams;
  periods = periods;
  rooms = rooms;
  period_rules = period_rules;
  room_rules = room_rules;
  weights = weights;
}

-- every limit holds
pub record InLimits (I : Session) : Type 0 where
  pub counts : AreCounted (length I.exams) (length I.periods) (length I.rooms)
      (length I.period_rules) (length I.room_rules)
  pub exams : All ExamInLimits I.exams
  pub periods : All PeriodInLimits I.periods
  pub rooms : All RoomInLimits I.rooms
  pub weights : WeightsInLimits I.weights

-- both exams of a rule are below a number of exams
abbrev pub PeriodRuleExists : ℕ → PeriodRule → Type 0
PeriodRuleExists n (After a b) = (a < n) × (b < n)
PeriodRuleExists n (Coincidence a b) = (a < n) × (b < n)
PeriodRuleExists n (Exclusion a b) = (a < n) × (b < n)

-- the exam of a rule is below a number of exams
abbrev pub RoomRuleExists : ℕ → RoomRule → Type 0
RoomRuleExists n r = r.0 < n

-- every exam that a rule names exists
pub record NumbersExist (I : Session) : Type 0 where
  pub period_rules : All (PeriodRuleExists (length I.exams)) I.period_rules
  pub room_rules : All (RoomRuleExists (length I.exams)) I.room_rules

-- the invariant of every instance
pub record IsInstance (I : Session) : Type 0 where
  pub limits : InLimits I
  pub numbers : NumbersExist I

-- why parts are not an instance: first, a limit fails; then, an exam doesn't exist
abbrev pub RefusesSession : Session → ModelFault → Type 0
RefusesSession I Range = InLimits I → ⊥
RefusesSession I NoSuch = InLimits I × (NumbersExist I → ⊥)
RefusesSession I NoMemory = Unit {0}
