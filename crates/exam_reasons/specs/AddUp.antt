-- The points of the reasons of each part add up to that part of the penalty.
use Rattle.std.specs.Prelude.{◌≡◌, sum_by}
use Rattle.exam_model.specs.Enrolments.{Enrolled}
use Rattle.exam_model.specs.Instance.{Session}
use Rattle.exam_model.specs.Timetable.{Placing}
use Rattle.exam_score.specs.Track.{track}
use Rattle.exam_reasons.specs.Reasons.{front_reasons, mixed_reasons, pair_reasons, period_reasons, room_reasons}
use Rattle.exam_reasons.specs.declared.reasons.PairKind.TheVariants.{Day, Night, Row, Spread}

-- the points of the reasons of each part add up to the part
pub record ReasonsAddUp (I : Session) (E : Enrolled) (T : Placing) : Type 0 where
  pub row : sum_by (λ reason. reason.points) (pair_reasons I E T Row) ≡ (track I E T).row
  pub day : sum_by (λ reason. reason.points) (pair_reasons I E T Day) ≡ (track I E T).day
  pub spread : sum_by (λ reason. reason.points) (pair_reasons I E T Spread) ≡ (track I E T).spread
  pub night : sum_by (λ reason. reason.points) (pair_reasons I E T Night) ≡ (track I E T).night
  pub mixed : sum_by (λ reason. reason.points) (mixed_reasons I T) ≡ (track I E T).mixed
  pub front : sum_by (λ reason. reason.points) (front_reasons I E T) ≡ (track I E T).front
  pub period : sum_by (λ reason. reason.points) (period_reasons I T) ≡ (track I E T).period
  pub room : sum_by (λ reason. reason.points) (room_reasons I T) ≡ (track I E T).room
