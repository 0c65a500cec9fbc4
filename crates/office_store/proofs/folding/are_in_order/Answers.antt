use Rattle.std.proofs.Common.{rules}
use Rattle.std.specs.Prelude.{nat_lt}
use Rattle.std.proofs.lemmas.Fn.{always_returns_same}
use Rattle.office_tables.specs.declared.tables.enrol.EnrolRow.{EnrolRow}
use Rattle.office_store.proofs.FoldingLemmas.{in_order_is}
use Rattle.office_store.proofs.folding.are_in_order.Goals as goal

pub returns : goal.returns
returns c =
    in_order_is c.args.rows.now c.is_sorted_by.result
    (c.is_sorted_by.ensures.cases (λ (x y : EnrolRow). nat_lt x.exam y.exam)
    (always_returns_same _ _ _ (λ a r f k. search rules)))
