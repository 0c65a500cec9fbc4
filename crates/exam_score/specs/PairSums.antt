-- The parts of pairs of exams.
use Rattle.std.specs.Prelude.{◌≡◌, ◌≤◌, ◌*◌}
use Rattle.exam_terms.specs.declared.limits.TheConstants.{MAX_AMOUNT, MAX_PAIRS}
use Rattle.exam_model.specs.Instance.{Session}
use Rattle.exam_model.specs.Enrolments.{Enrolled}
use Rattle.exam_model.specs.Timetable.{Placing}
use Rattle.exam_score.specs.Kinds.{EachKind, amount}
use Rattle.exam_score.specs.Penalty.{PersonalPenalty}
use Rattle.exam_score.specs.Track.{pair_parts}

-- the numbers are the parts, and none is great
pub record ArePairParts (I : Session) (E : Enrolled) (T : Placing)
    (sums : PersonalPenalty) : Type 0 where
  pub parts : sums ≡ pair_parts I E T
  pub few : EachKind (λ k. amount sums k ≤ MAX_PAIRS * MAX_PAIRS * MAX_AMOUNT)
