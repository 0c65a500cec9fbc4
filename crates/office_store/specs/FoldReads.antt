-- What a connection leaves unchanged if it only reads rows, with one or several statements.
use Rattle.std.specs.Prelude.{◌≡◌, IsTrue, false, OnOk, Result, Some}
use Rattle.sqlite.specs.Held.{Held, state}
use Rattle.sqlite.specs.State.{HasCleanDisk, IsUnchanged, Survives}
use Rattle.sqlite.specs.Store.{Ghosts}
use Rattle.exam_model.specs.Enrolments.{Enrolled}
use Rattle.office_model.specs.Office.{Records}
use Rattle.office_records.specs.Representation.{RepresentsOffice}
use Rattle.office_tables.specs.Readers.{LeavesCommittedIn, OpensNone}
use Rattle.office_tables.specs.Tables.{Tables}
use Rattle.office_tables.specs.TablesHeld.{HoldsTables}
use Rattle.office_tables.specs.declared.version.Version.TheVariants.{Two}

-- whatever the result: nothing is changed except what was not committed
pub record HasRead {S : Type 0} (store : Ghosts S) (old new : Held S) : Type 0 where
  pub clean : HasCleanDisk (state store new) → HasCleanDisk (state store old)
  pub survives : Survives (state store old) (state store new) (λ _. ⊥)
  pub was_open : OpensNone store old new
  pub kept : LeavesCommittedIn Two store old new
  pub mode : old.in_transaction ≡ false → new.in_transaction ≡ false

-- over a clean disk, if the tables are those of an office, everything is as it was
abbrev pub RowsUnchanged : {S : Type 0} → Ghosts S → Held S → Held S → Type 0
RowsUnchanged store old new =
    HasCleanDisk (state store new) → (t : Tables) → HoldsTables (state store old).now t
    → IsTrue (state store old).is_open → IsUnchanged (state store old) (state store new)

-- what such a call leaves: on an Ok the rows of an office are unchanged
pub record LeavesRows {S A E : Type 0} (store : Ghosts S) (old new : Held S) (result : Result A E)
    : Type 0 where
  pub read : HasRead store old new
  pub same : OnOk result (RowsUnchanged store old new)

-- over a clean disk, the open file represented an office with these enrolments
pub record HadEnrolments {S : Type 0} (store : Ghosts S) (old new : Held S) (E : Enrolled)
    : Type 0 where
  pub clean : HasCleanDisk (state store new)
  pub opened : IsTrue (state store old).is_open
  pub records : Records
  pub kept : RepresentsOffice (state store old).now (Some records)
  pub enrolments : records.enrolments ≡ E
