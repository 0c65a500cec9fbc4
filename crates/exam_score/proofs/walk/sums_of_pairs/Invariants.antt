use Rattle.exam_score.specs.Kinds.{TableKind, table_amount, table_cost}
use Rattle.exam_score.proofs.WalkLemmas.{IsCostTo}
use Rattle.exam_score.proofs.walk.sums_of_pairs.Given as goal

abbrev pub invariant-loop-at : goal.invariant-loop-at
invariant-loop-at l =
    (k : TableKind) → IsCostTo (table_cost l.instance k) l.tallies l.at (table_amount l.sums k)
