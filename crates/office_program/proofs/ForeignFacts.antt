-- Facts of a database that holds no office.
use Rattle.std.proofs.Common.{◌∙◌, None, Err, ap, inl, inr, refl, sym}
use Rattle.sqlite.specs.Effect.{Database}
use Rattle.sqlite.specs.Held.{Held, state}
use Rattle.sqlite.specs.State.{State}
use Rattle.sqlite.specs.Store.{Ghosts}
use Rattle.sqlite.proofs.StateLemmas.{survives_weaker}
use Rattle.sqlite_trees.specs.Tree.{Trees}
use Rattle.office_model.specs.Office.{OfficeState}
use Rattle.office_model.specs.declared.fault.StoreFault.{StoreFault}
use Rattle.office_store.specs.Leaving.{LeavesOpened, MayMigrate, MayOpen}
use Rattle.office_store.specs.Opening.{HoldsOffice, IsOfficeOf}
use Rattle.office_program.specs.Export.{IfRead}
use Rattle.office_program.specs.Foreign.{HasNone, LeavesIfForeign}
use Rattle.office_program.specs.Load.{IfStored}
use Rattle.office_program.specs.declared.exporting.ExportFault.{ExportFault}
use Rattle.office_program.specs.declared.exporting.ExportFault.TheVariants as export
use Rattle.office_program.specs.declared.loading.LoadFault.{LoadFault}
use Rattle.office_program.specs.declared.loading.LoadFault.TheVariants as load
use Rattle.office_store.specs.Faults.{IsOfDatabase}

module _ {S : Type 0} (store : Ghosts S) (old : Held S) (refused : StoreFault × Held S)
    (fault : IsOfDatabase refused.0) where
  -- what was refused at its opening, and commits nothing if there is no office, leaves it as it was
  left_foreign : (Holds : Database → OfficeState → Type 0)
      (may : State → _ → Trees → Type 0) → LeavesOpened store may old (Err refused)
      → ((found : Trees) → may (state store old) (Err refused) found
      → HasNone Holds (state store old).now → ⊥)
      → LeavesIfForeign store Holds old refused.1 refused.0
  left_foreign Holds may leaves never clean none = record {
    fault = elim fault [ inl is ↦ inr is | inr is ↦ inl is ];
    unchanged = λ kept opened. elim leaves.undone [
      | inl same ↦ ap (λ held. (state store held).now) same
      | inr undone ↦ (undone clean).now opened ∙ sym kept
    ];
    survives = survives_weaker (state store old) (state store refused.1) _ _
        (λ _ found made. never found made none) leaves.survives;
  }

  -- an opening that failed
  pub unopened_foreign : LeavesOpened store MayOpen old (Err refused)
      → LeavesIfForeign store IsOfficeOf old refused.1 refused.0
  unopened_foreign leaves = left_foreign IsOfficeOf MayOpen leaves (λ found may none. elim may [
    | inl made ↦ none None (inl (made.0, refl))
    | inr migrated ↦ none migrated.2.office (inr migrated.2.stood)
  ])

  -- an adoption that failed
  pub unadopted_foreign : LeavesOpened store MayMigrate old (Err refused)
      → LeavesIfForeign store HoldsOffice old refused.1 refused.0
  unadopted_foreign leaves = left_foreign HoldsOffice MayMigrate leaves
      (λ found migrated none. none migrated.2.office migrated.2.stood)

-- a fact about any fault
pub if_stored : (of : LoadFault) (P : StoreFault → Type 0) → ((f : StoreFault) → P f) → IfStored of P
if_stored (load.Store f) P always = always f
if_stored load.Write P always = tt

pub if_read : (of : ExportFault) (P : StoreFault → Type 0) → ((f : StoreFault) → P f) → IfRead of P
if_read (export.Store f) P always = always f
if_read export.NoPublication P always = tt
if_read export.NoMemory P always = tt
if_read export.Write P always = tt
