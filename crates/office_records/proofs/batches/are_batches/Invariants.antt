use Rattle.std.specs.Prelude.{All, take}
use Rattle.office_records.specs.FoundBatches.{IsBatchRow}
use Rattle.office_records.proofs.batches.are_batches.Given as goal

abbrev pub invariant-rows : goal.invariant-rows
invariant-rows l = All IsBatchRow (take l.row-index l.rows)
