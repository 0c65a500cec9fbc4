-- The effect of `export` on the office that a database represents.
use Rattle.std.specs.Prelude.{◌≡◌, ◌<◌, ◌≤◌, List, length, ℕ, Option, Some, None, Result, IfErr, IfOk, IsSome, option_map}
use Rattle.std.specs.Io.KnownBytes.{Appends}
use Rattle.sqlite.specs.State.{State}
use Rattle.exam_model.specs.Instance.{Session}
use Rattle.exam_model.specs.Timetable.{Placing, place_of}
use Rattle.office_files.specs.CanonicalSolution.{canonical_solution}
use Rattle.office_model.specs.Office.{OfficeState, Publication}
use Rattle.office_model.specs.Step.{publication_in}
use Rattle.office_model.specs.declared.fault.StoreFault.{StoreFault}
use Rattle.office_model.specs.declared.fault.StoreFault.TheVariants as store
use Rattle.office_output.specs.Writing.{WritesFront}
use Rattle.office_store.specs.Running.{Represents}
use Rattle.office_program.specs.declared.exporting.ExportFault.{ExportFault}
use Rattle.office_program.specs.declared.exporting.ExportFault.TheVariants as fault

-- the canonical solution of the publication, if there is one
abbrev pub published_solution : OfficeState → Option (List ℕ)
published_solution office =
    option_map (λ (found : Session × Publication). canonical_solution found.1.timetable)
    (publication_in office)

-- the solution of the publication is written, and the office is unchanged
pub record Exports (office : OfficeState) (after : State) (old new : Option (List ℕ))
    : Type 0 where
  pub text : List ℕ
  pub published : published_solution office ≡ Some text
  pub printed : Appends old new text
  pub represents : Represents after office

-- a statement failed, nothing is published, memory ran out for the text of what is published, or the
-- writer failed during the write of it
abbrev pub RefusesExport : OfficeState → ExportFault → Type 0
RefusesExport office (fault.Store f) = f ≡ store.Store
RefusesExport office fault.NoPublication = published_solution office ≡ None
RefusesExport office fault.NoMemory = IsSome (published_solution office)
RefusesExport office fault.Write = (text : List ℕ) × (published_solution office ≡ Some text)

-- a fact about the fault of the office's file, unless the office was read
abbrev pub IfRead : ExportFault → (StoreFault → Type 0) → Type 0
IfRead (fault.Store f) P = P f
IfRead of P = Unit {0}

-- a part of an export ended so: done, or refused; the database still represents the office
pub record ExportRan {A : Type 0} (Done : A → Type 0) (office : OfficeState) (after : State)
    (result : Result A ExportFault) : Type 0 where
  pub done : IfOk result Done
  pub refused : IfErr result (RefusesExport office)
  pub stays : Represents after office

-- a whole timetable: it has exams, and each has a place
abbrev pub IsWhole : Placing → Type 0
IsWhole T = (1 ≤ length T) × ((e : ℕ) → e < length T → IsSome (place_of T e))

-- the canonical solution of some whole timetable is printed
abbrev pub PrintsSolution : Option (List ℕ) → Option (List ℕ) → Type 0
PrintsSolution old new =
    (T : Placing) × IsWhole T × Appends old new (canonical_solution T)

-- the same, of a front of it
abbrev pub PrintsSolutionFront : Option (List ℕ) → Option (List ℕ) → Type 0
PrintsSolutionFront old new =
    (T : Placing) × IsWhole T × WritesFront old new (canonical_solution T)
