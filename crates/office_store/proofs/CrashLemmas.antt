-- The office that a later opening finds after a crash.
use Rattle.std.proofs.Common.{◌≡◌, ◌∙◌, None, Result, inl, inr, refl, subst, sym}
use Rattle.sqlite.specs.Effect.{Database, IsDatabase}
use Rattle.sqlite.specs.Held.{Held, state}
use Rattle.sqlite.specs.State.{State, HasCleanDisk}
use Rattle.sqlite.specs.Store.{Ghosts}
use Rattle.sqlite_trees.specs.Tree.{Trees}
use Rattle.office_tables.specs.Alterations.{found_in}
use Rattle.office_tables.specs.declared.version.Version.TheVariants.{One}
use Rattle.office_tables.proofs.OneSchema.{one_database}
use Rattle.office_model.specs.Commands.{CommandResult}
use Rattle.office_model.specs.Office.{OfficeState}
use Rattle.office_model.specs.declared.fault.StoreFault.{StoreFault}
use Rattle.office_records.specs.Representation.{RepresentsOffice}
use Rattle.office_store.specs.Crashes.{IsBeforeOrAfter, OpenedAfter}
use Rattle.office_store.specs.Leaving.{LeavesNext, LeavesOpened, MayOpen, connection_of}
use Rattle.office_store.specs.Opening.{IsOfficeOf}
use Rattle.office_store.specs.Running.{IsCommitted}
use Rattle.office_store.proofs.OpenLemmas.{before_load, has_some, holds, kept_holds}

-- a database whose trees are those of another
pub same_found : (opened other : Database) → IsDatabase opened → IsDatabase other
    → opened.trees ≡ other.trees → other ≡ opened
same_found opened other first second same = sym (one_database opened other first second same)

module _ {S : Type 0} (g : Ghosts S) (old : Held S) (committed : IsCommitted (state g old))
    (live : IsDatabase (state g old).now)
    (settled : (found : Trees) → (state g old).may_leave found → found ≡ (state g old).now.trees)
  where
    -- nothing was committed since: the database is as it was
    pub before_is : (opened : State) → IsDatabase opened.now
        → (state g old).may_leave opened.now.trees → opened.now ≡ (state g old).now
    before_is opened sound may =
        one_database opened.now (state g old).now sound live (settled opened.now.trees may)

    pub after_command : {A : Type 0} (command : OfficeState → CommandResult A) (new : Held S)
        (result : Result A StoreFault) (opened : State) (office : OfficeState)
        → RepresentsOffice (state g old).now office → LeavesNext g command old new result
        → HasCleanDisk (state g new) → OpenedAfter (state g new) opened
        → IsBeforeOrAfter command office result opened.now
    after_command command new result opened office kept leaves clean found =
        elim (leaves.survives.crash clean opened.now.trees found.may)
        as (λ _. IsBeforeOrAfter command office result opened.now) [
          | inl before ↦ inl (subst (λ db. IsOfficeOf db office)
              (sym (before_is opened found.sound before)) (inr (kept_holds _ office kept)))
          | inr made ↦
              let next = made.1.holds office kept in
              let is = same_found opened.now (found_in opened.now.trees) found.sound made.1.sound refl in
              inr (
                made.0,
                next.0,
                next.1,
                next.2,
                subst (λ db. IsOfficeOf db next.1) is (inr (kept_holds _ next.1 next.3)),
              )
        ]

    pub after_opening : (result : Result (Held S) (StoreFault × Held S)) (opened : State)
        (office : OfficeState) → IsOfficeOf (state g old).now office
        → LeavesOpened g MayOpen old result → HasCleanDisk (state g (connection_of result))
        → OpenedAfter (state g (connection_of result)) opened → IsOfficeOf opened.now office
    after_opening result opened office there leaves clean found =
        elim (leaves.survives.crash clean opened.now.trees found.may)
        as (λ _. IsOfficeOf opened.now office) [
          | inl before ↦ subst (λ db. IsOfficeOf db office)
              (sym (before_is opened found.sound before)) there
          | inr (inl made) ↦
              let is = same_found opened.now (found_in opened.now.trees) found.sound
              (made.3 committed.0) refl in
              subst (λ o. IsOfficeOf opened.now o) (sym (before_load _ office made.0 there))
              (subst (λ db. IsOfficeOf db None) is (inr (kept_holds _ None made.2)))
          | inr (inr made) ↦
              let is = same_found opened.now (found_in opened.now.trees) found.sound made.3 refl in
              let held = holds _ office
              (λ none. has_some One (sym made.0 ∙ none)) there in
              subst (λ db. IsOfficeOf db office) is
              (inr (kept_holds _ office (made.2.represents office held)))
        ]
