use Rattle.std.proofs.lemmas.Grind.{common_steps}
use Rattle.std.proofs.Common.{arith}
use Rattle.sqlite.specs.Listing.{understood}
use Rattle.sqlite_tied.specs.Compute.{everything}
use Rattle.office_tables.proofs.Rows.{seats}
use Rattle.office_tables.proofs.tables.seat.SeatRowTable516.inserts.Goals as goal

pub returns : goal.returns
unfolding understood everything
returns c = grind (arith, common_steps, seats)
