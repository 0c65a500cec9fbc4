-- A draft: a timetable over an instance and enrolments, with its penalty.
use Rattle.std.specs.Prelude.{◌≡◌}
use Rattle.exam_model.specs.Instance.{Session}
use Rattle.exam_model.specs.Enrolments.{Enrolled}
use Rattle.exam_model.specs.Timetable.{Placing}
use Rattle.exam_model.specs.Fits.{Fits}
use Rattle.exam_score.specs.Penalty.{Penalty}
use Rattle.exam_score.specs.Track.{track}

-- the parts of a draft that determine its penalty
pub record DraftState : Type 0 where
  pub instance : Session
  pub enrolments : Enrolled
  pub timetable : Placing

-- the invariant of every draft: its parts fit together, and the parts of its penalty are the
-- timetable's
pub record IsScored (I : Session) (E : Enrolled) (T : Placing) (parts : Penalty) : Type 0 where
  pub fits : Fits I E T
  pub score : parts ≡ track I E T
