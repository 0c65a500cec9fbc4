use Rattle.std.proofs.Common.{None, arith, map, subst, sym}
use Rattle.std.specs.List.{AllByRecursion}
use Rattle.std.proofs.lemmas.List.Elements.{All-from_recursion}
use Rattle.std.proofs.lemmas.List.{get_or_default, get_or_past}
use Rattle.office_tables.specs.Tables.Draft.{AreAmounts}
use Rattle.office_tables.specs.declared.tables.draft.InsertDraft.{InsertDraft}
use Rattle.office_store.proofs.FillingLemmas.{AreFirstRows, all_rows, more_rows, no_rows}
use Rattle.office_store.proofs.rescoring.draft_inserts.Goals as goal

pub numbers-init : goal.numbers-init
numbers-init c = record {
  rows = subst (λ l. AreFirstRows c.args.drafts.now 0 (map (λ (it : InsertDraft). it.row) l))
      (sym c.new-rows.ensures.items) (no_rows c.args.drafts.now);
  small = subst (AllByRecursion (λ (it : InsertDraft). AreAmounts it.row))
      (sym c.new-rows.ensures.items) tt;
}

pub numbers-preserved : goal.numbers-preserved
numbers-preserved c =
    let size = c.type_inv.drafts in
    let more = more_rows c.args.drafts.now c.numbers.number c.numbers.rows.items
    c.add_row.new.rows.items c.numbers.invariant.rows c.numbers.invariant.small _
    (get_or_default c.args.drafts.now c.numbers.number None c.index-drafts-number.result
    (omega (arith, size, c.numbers-test.true)))
    c.in_ok-add_row.ensures.none c.in_ok-add_row.ensures.some in
    record { rows = more.rows; small = more.amounts }

pub returns-clause-rows : goal.returns-clause-rows
returns-clause-rows c =
    let size = c.type_inv.drafts in
    all_rows c.args.drafts.now c.numbers.number _ c.numbers.invariant.rows
    (λ d high. get_or_past c.args.drafts.now d None (omega (arith, size, high, c.numbers-test.false)))

pub returns-clause-small : goal.returns-clause-small
returns-clause-small c =
    All-from_recursion (λ (it : InsertDraft). AreAmounts it.row) c.numbers.rows.items
    c.numbers.invariant.small
