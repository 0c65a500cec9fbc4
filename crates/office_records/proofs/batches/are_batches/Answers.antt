use Rattle.std.proofs.Common.{refl, subst, arith}
use Rattle.std.specs.Prelude.{All}
use Rattle.std.proofs.lemmas.List.{take_all}
use Rattle.std.proofs.lemmas.List.Elements.{All-more}
use Rattle.office_records.specs.FoundBatches.{IsBatchRow}
use Rattle.office_records.proofs.BatchRowLemmas.{no_row}
use Rattle.office_records.proofs.batches.are_batches.Goals as goal

pub rows-preserved : goal.rows-preserved
rows-preserved c =
    All-more IsBatchRow c.args.rows.now c.rows.row-index no_row c.rows-test.true c.rows.invariant
    (c.is_batch.ensures.0 c.if-not-is_batch.false)

pub returns : goal.returns
returns c =
    let rows = c.args.rows.now in (
      λ _. subst (All IsBatchRow) (take_all c.rows.row-index rows (omega arith)) c.rows.invariant,
      λ _. refl,
    )
