-- Whose share of the penalty is how much: of students by their rows, of exams, periods and rooms.
use Rattle.std.specs.Prelude.{ℕ, ◌*◌, Bool, ◌==◌, List, map, filter, length, count_by, Option, slice_get}
use Rattle.std.specs.List.{range_with_len}
use Rattle.exam_terms.specs.declared.place.Place.{Place}
use Rattle.exam_model.specs.Enrolments.{has_number}
use Rattle.exam_model.specs.Instance.{Session}
use Rattle.exam_model.specs.Timetable.{Placing}
use Rattle.exam_model.specs.declared.parts.Period.{Period}
use Rattle.exam_model.specs.declared.parts.Weights.{Weights}
use Rattle.exam_rules.specs.Places.{place_satisfies}
use Rattle.exam_score.specs.Penalty.{PersonalPenalty}
use Rattle.exam_score.specs.Personal.{personal_of}
use Rattle.exam_score.specs.Track.{period_penalty, room_penalty}
use Rattle.exam_score.specs.FrontLoad.{exam_front}
use Rattle.exam_score.specs.MixedDurations.{room_mixed}
use Rattle.exam_publish.specs.declared.seat_row.SeatRow.{SeatRow}
use Rattle.exam_publish.specs.declared.share_lists.RoomShare.{RoomShare}
use Rattle.exam_publish.specs.Changed.{rows_of, students_of}
use Rattle.exam_publish.specs.Rows.{enrolled_in}

-- the personal penalty of a candidate's rows
abbrev pub share_of : List Period → Weights → List SeatRow → PersonalPenalty
share_of periods weights own = personal_of periods weights (map (λ row. row.period) own)

-- each candidate with rows, ascending, and their share
abbrev pub student_shares : Session → List SeatRow → List (ℕ × PersonalPenalty)
student_shares I rows =
    map (λ s. (s, share_of I.periods I.weights (rows_of s rows))) (students_of rows)

-- each exam's share of the front load, sizes by the rows
abbrev pub exam_shares : Session → List SeatRow → Placing → List ℕ
exam_shares I rows T =
    map (exam_front I (enrolled_in (length I.exams) rows) T) (range_with_len 0 (length I.exams))

-- whether a place is in this period
abbrev pub is_in_period : ℕ → Option Place → Bool
is_in_period p at = place_satisfies (λ at. at.period == p) at

-- whether a place is in this room
abbrev pub is_in_room : ℕ → Option Place → Bool
is_in_room r at = place_satisfies (λ at. at.room == r) at

-- a period's penalty, once for each exam that is in it
abbrev pub period_share : Session → Placing → ℕ → ℕ
period_share I T p = period_penalty (slice_get I.periods p) * count_by (is_in_period p) T

-- the shares of all periods, by their numbers
abbrev pub period_shares : Session → Placing → List ℕ
period_shares I T = map (period_share I T) (range_with_len 0 (length I.periods))

-- a room's penalty, once for each exam that is in it
abbrev pub penalty_in : Session → Placing → ℕ → ℕ
penalty_in I T r = room_penalty (slice_get I.rooms r) * count_by (is_in_room r) T

-- a room's penalties, and separately its mixed durations over all periods
abbrev pub room_share : Session → Placing → ℕ → RoomShare
room_share I T r = record { penalty = penalty_in I T r; mixed = room_mixed I T r }

-- the shares of all rooms, by their numbers
abbrev pub room_shares : Session → Placing → List RoomShare
room_shares I T = map (room_share I T) (range_with_len 0 (length I.rooms))

-- all shares of a publication
pub record Sharing : Type 0 where
  pub students : List (ℕ × PersonalPenalty)
  pub exams : List ℕ
  pub periods : List ℕ
  pub rooms : List RoomShare

-- the shares of these rows and this timetable
abbrev pub shares_of : Session → List SeatRow → Placing → Sharing
shares_of I rows T = record {
  students = student_shares I rows;
  exams = exam_shares I rows T;
  periods = period_shares I T;
  rooms = room_shares I T;
}

-- the same, but of the students only these
abbrev pub shares_among : Session → List SeatRow → Placing → List ℕ → Sharing
shares_among I rows T students = record {
  students = filter (λ share. has_number students share.0) (student_shares I rows);
  exams = exam_shares I rows T;
  periods = period_shares I T;
  rooms = room_shares I T;
}
