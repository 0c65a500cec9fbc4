use Rattle.std.proofs.Common.{get_or, subst, arith}
use Rattle.std.proofs.lemmas.List.{take_all}
use Rattle.office_records.specs.Found.{AreOwners}
use Rattle.office_records.specs.NextRow.{IsFirstOwner}
use Rattle.office_records.proofs.OwnerRowLemmas.{owner_first, owners_named}
use Rattle.office_records.proofs.ResultLemmas.{nothing_has}
use Rattle.office_records.proofs.owners.check_owners.Goals as goal

-- a row that is no first owner's
pub returns-in_err-note_owner-clause-none : goal.returns-in_err-note_owner-clause-none
returns-in_err-note_owner-clause-none c =
    let I = c.args.instance.now in
    let rows = c.args.rows.now in
    let row = get_or rows c.loop-row.row-index (record { exam = 0; dept = 0 }) in
    let refused : IsFirstOwner c.loop-row.departments.items row → ⊥
    = subst (λ l. IsFirstOwner l row → ⊥) c.deref_mut.ensures.value
    c.in_err-note_owner.ensures.refused in
    nothing_has _ (AreOwners I rows) (λ owner_of owners. refused
    (owner_first I rows c.loop-row.row-index _ c.loop-row.departments.items owner_of
    c.loop-row-test.true c.loop-row.invariant owners))

-- all rows are named
pub returns-clause-are : goal.returns-clause-are
returns-clause-are c =
    let rows = c.args.rows.now in
    let done = take_all c.loop-row.row-index rows (omega arith) in (
      _,
      subst (λ l. AreOwners c.args.instance.now l
          (λ e. get_or c.loop-row.departments.items e 0)) done
          (owners_named c.args.instance.now _ c.loop-row.departments.items c.loop-row.invariant),
    )
