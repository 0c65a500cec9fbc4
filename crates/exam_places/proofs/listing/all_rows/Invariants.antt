use Rattle.std.proofs.Common.{◌≡◌}
use Rattle.std.specs.List.{flat_map, range_with_len}
use Rattle.exam_places.specs.Unplaced.{rows_by}
use Rattle.exam_places.proofs.listing.all_rows.Given as goal

abbrev pub invariant-loop-period : goal.invariant-loop-period
invariant-loop-period l =
    l.rows.items ≡ flat_map (rows_by l.unplaced l.total) (range_with_len 0 l.period)
