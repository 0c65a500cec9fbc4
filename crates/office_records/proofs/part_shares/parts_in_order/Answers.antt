use Rattle.std.proofs.Common.{ℕ, rules, subst}
use Rattle.std.specs.Prelude.{IsPermutation}
use Rattle.std.proofs.lemmas.Fn.{always_returns_same}
use Rattle.exam_lists.proofs.Orders.{PairBefore, pair_cmp, pair_less, pair_total}
use Rattle.office_tables.specs.declared.tables.share_part.PartShareRow.{PartShareRow}
use Rattle.office_records.specs.PartShares.{part_rows}
use Rattle.office_records.proofs.OrderLemmas.{one_order, part_key, parts_rise}
use Rattle.office_records.proofs.part_shares.parts_in_order.Goals as goal

pub returns-clause-only : goal.returns-clause-only
returns-clause-only c shares same =
    let sorted = c.sort_by_key.new.self.items in
    let key : PartShareRow → ℕ × ℕ = part_key in
    one_order key pair_cmp pair_total PairBefore pair_less c.args.rows.now (part_rows shares) sorted
    (parts_rise shares) same
    (subst (λ l. IsPermutation l sorted) c.in_ok-sorted.ensures.items
    c.in_ok-sort_by_key.ensures.permutation)
    (c.in_ok-sort_by_key.ensures.sorted key (always_returns_same _ _ _ (λ a r f k. search rules)))
