use Rattle.std.proofs.Common.{◌≡◌, take}
use Rattle.exam_score.specs.ConflictCosts.{conflicts_cost}
use Rattle.exam_score.specs.Kinds.{TableKind, table_amount, table_cost}
use Rattle.exam_score.proofs.conflict_sums.sums_of_conflicts.Given as goal

-- the costs of the conflicts so far
abbrev pub invariant-loop-conflict : goal.invariant-loop-conflict
invariant-loop-conflict l = (k : TableKind) → table_amount l.sums k
    ≡ conflicts_cost (table_cost l.instance k) l.timetable (take l.conflict-index l.conflicts)
