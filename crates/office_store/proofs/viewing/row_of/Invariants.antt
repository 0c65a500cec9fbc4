use Rattle.std.proofs.Common.{◌≡◌, drop}
use Rattle.std.specs.Prelude.{find, ◌==◌}
use Rattle.office_store.proofs.viewing.row_of.Given as goal

-- the exam isn't among those that were passed
abbrev pub invariant-loop-row : goal.invariant-loop-row
invariant-loop-row l =
    find (λ row. row.exam == l.exam) l.rows
    ≡ find (λ row. row.exam == l.exam) (drop l.row-index l.rows)
