-- The shares add up to the penalty, in all and part by part.
use Rattle.std.specs.Prelude.{◌≡◌, ℕ, ◌+◌, ◌<◌, ◌^◌, All, sum, sum_by}
use Rattle.exam_score.specs.Penalty.{Penalty, personal_total, total_of}
use Rattle.exam_publish.specs.Shares.{Sharing}

-- all shares together
abbrev pub share_total : Sharing → ℕ
share_total shares =
    sum_by (λ share. personal_total share.1) shares.students
    + sum shares.exams
    + sum shares.periods
    + sum_by (λ share. share.penalty + share.mixed) shares.rooms

-- the shares of each kind together
abbrev pub added_up : Sharing → Penalty
added_up shares = record {
  row = sum_by (λ share. share.1.row) shares.students;
  day = sum_by (λ share. share.1.day) shares.students;
  spread = sum_by (λ share. share.1.spread) shares.students;
  night = sum_by (λ share. share.1.night) shares.students;
  mixed = sum_by (λ share. share.mixed) shares.rooms;
  front = sum shares.exams;
  period = sum shares.periods;
  room = sum_by (λ share. share.penalty) shares.rooms;
}

-- the shares of each kind add up to the part of that kind, and all of them to the total
pub record AddUpTo (penalty : Penalty) (shares : Sharing) : Type 0 where
  pub row : sum_by (λ share. share.1.row) shares.students ≡ penalty.row
  pub day : sum_by (λ share. share.1.day) shares.students ≡ penalty.day
  pub spread : sum_by (λ share. share.1.spread) shares.students ≡ penalty.spread
  pub night : sum_by (λ share. share.1.night) shares.students ≡ penalty.night
  pub mixed : sum_by (λ share. share.mixed) shares.rooms ≡ penalty.mixed
  pub front : sum shares.exams ≡ penalty.front
  pub period : sum shares.periods ≡ penalty.period
  pub room : sum_by (λ share. share.penalty) shares.rooms ≡ penalty.room
  pub total : share_total shares ≡ total_of penalty

-- each share is below 2^62, and so is their sum
pub record AreSmall (shares : Sharing) : Type 0 where
  pub students : All (λ share. personal_total share.1 < 2 ^ 62) shares.students
  pub exams : All (λ share. share < 2 ^ 62) shares.exams
  pub periods : All (λ share. share < 2 ^ 62) shares.periods
  pub rooms : All (λ share. share.penalty + share.mixed < 2 ^ 62) shares.rooms
  pub total : share_total shares < 2 ^ 62
