use Rattle.std.proofs.Common.{◌≡◌, drop}
use Rattle.office_model.specs.ViewRows.{seat_in}
use Rattle.office_model.proofs.views.seat_in.Given as goal

-- the row isn't among those that were passed
abbrev pub invariant-loop-row : goal.invariant-loop-row
invariant-loop-row l = seat_in l.seats l.exam ≡ seat_in (drop l.row-index l.seats) l.exam
