use Rattle.std.proofs.Common.{length, take}
use Rattle.std.specs.Prelude.{slice_get}
use Rattle.exam_score.specs.Track.{room_penalty}
use Rattle.exam_publish.specs.Shares.{is_in_room}
use Rattle.exam_publish.specs.Tallies.{AreTallied}
use Rattle.exam_publish.proofs.place_shares.room_penalties.Given as goal

abbrev pub invariant-exams : goal.invariant-exams
invariant-exams l =
    AreTallied (λ r. room_penalty (slice_get l.instance.rooms r)) is_in_room
    (length l.instance.rooms) (take l.exam l.timetable) l.shares.items
