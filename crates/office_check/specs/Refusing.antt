-- When `check` refuses, and with which fault.
use Rattle.std.specs.Prelude.{◌≡◌, ℕ, List, Some}
use Rattle.office_files.specs.FirstFault.{first_fault, first_solution_fault}
use Rattle.office_files.specs.declared.fault.FileFault.{FileFault}
use Rattle.office_check.specs.Check.{IsRead, AreRead}
use Rattle.office_check.specs.declared.checking.CheckFault.{CheckFault}
use Rattle.office_check.specs.declared.checking.CheckFault.TheVariants as fault
use Rattle.office_files.specs.declared.inputs.InputFault.{InputFault}
use Rattle.office_files.specs.declared.inputs.InputFault.TheVariants as input

-- the fault of the whole run for a fault of the instance's input
abbrev pub of_instance : InputFault → CheckFault
of_instance input.Read = fault.ReadInstance
of_instance (input.File f) = fault.Instance f
of_instance input.NoMemory = fault.NoMemory

-- the fault of the whole run for a fault of the solution's input
abbrev pub of_solution : InputFault → CheckFault
of_solution input.Read = fault.ReadSolution
of_solution (input.File f) = fault.Solution f
of_solution input.NoMemory = fault.NoMemory

-- the instance's text has a reading, and for it the solution's text has this first fault
pub record IsMisread (instance solution : List ℕ) (f : FileFault) : Type 0 where
  pub first : IsRead instance
  pub fault : first_solution_fault first.session solution ≡ Some f

-- the stage of the work, and the first fault of the text at which it ended
abbrev pub Refuses : List ℕ → List ℕ → CheckFault → Type 0
Refuses instance solution fault.ReadInstance = Unit {0}
Refuses instance solution (fault.Instance f) = first_fault instance ≡ Some f
Refuses instance solution fault.ReadSolution = IsRead instance
Refuses instance solution (fault.Solution f) = IsMisread instance solution f
Refuses instance solution fault.Write = AreRead instance solution
Refuses instance solution fault.NoMemory = Unit {0}
