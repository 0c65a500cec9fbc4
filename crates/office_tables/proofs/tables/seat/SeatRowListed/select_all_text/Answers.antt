use Rattle.office_tables.proofs.ListTexts.{seat_lists}
use Rattle.office_tables.proofs.tables.seat.SeatRowListed.select_all_text.Goals as goal

pub returns : goal.returns
returns c version = seat_lists version
