use Rattle.exam_publish.proofs.SeatLemmas.{are_seats}
use Rattle.exam_publish.proofs.laws.seats_are_rows.Goals as goal

pub returns : goal.returns
returns c I E T old enrolled fits permitted was = are_seats I E T old fits enrolled permitted was
