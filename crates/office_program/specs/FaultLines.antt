-- The printed lines of the program's own faults, and of the faults of files, databases and offices.
use Rattle.std.specs.Prelude.{ℕ, ◌++◌, List, codes, decimal}
use Rattle.office_model.specs.declared.fault.Refusal.TheVariants as refusal
use Rattle.office_model.specs.declared.fault.StoreFault.{StoreFault}
use Rattle.office_model.specs.declared.fault.StoreFault.TheVariants as store
use Rattle.office_model.specs.Numbers.{kind_number, store_number}
use Rattle.sqlite.specs.declared.error.Error.{Error}
use Rattle.sqlite.specs.declared.error.Error.TheVariants.{SqliteFailure}
use Rattle.sqlite.specs.declared.error.ErrorCode.TheVariants.{OutOfMemory}
use Rattle.office_check.specs.Names.{printed_name}
use Rattle.office_files.specs.declared.fault.FileFault.{FileFault}
use Rattle.office_files.specs.declared.inputs.InputFault.{InputFault}
use Rattle.office_files.specs.declared.inputs.InputFault.TheVariants as input
use Rattle.office_program.specs.declared.faults.ProgramFault.{ProgramFault}
use Rattle.office_program.specs.declared.faults.ProgramFault.TheVariants as fault

-- the line of a fault of a solution, without its end
abbrev pub of_solution : FileFault → List ℕ
of_solution f = codes "examoffice: solution line " ++ decimal f.line
    ++ codes ": fault " ++ decimal (kind_number f.what)

-- the line of a fault, without its end
abbrev pub fault_line : ProgramFault → List ℕ
fault_line (fault.CannotRead path) = codes "examoffice: cannot read " ++ printed_name path.now
fault_line (fault.Instance f) = codes "examoffice: instance line " ++ decimal f.line
    ++ codes ": fault " ++ decimal (kind_number f.what)
fault_line (fault.Solution f) = of_solution f
fault_line (fault.SolutionAt path f) = printed_name path.now ++ (codes ": " ++ of_solution f)
fault_line (fault.CannotOpen why) = codes "examoffice: cannot open database"
fault_line (fault.Store f) = codes "examoffice: store fault " ++ decimal (store_number f)
fault_line (fault.NoExam exam) = codes "examoffice: no exam " ++ decimal exam
fault_line fault.NoPublication = codes "examoffice: no publication"
fault_line fault.CannotListen = codes "examoffice: cannot listen"
fault_line fault.CannotWrite = codes "examoffice: cannot write"
fault_line fault.NoMemory = codes "examoffice: no memory"

-- the line of a fault in reading an instance of this path, without its end
abbrev pub input_line : List ℕ → InputFault → List ℕ
input_line path input.Read = codes "examoffice: cannot read " ++ printed_name path
input_line path (input.File f) = fault_line (fault.Instance f)
input_line path input.NoMemory = fault_line fault.NoMemory

-- the line of a fault in reading a solution of this path, without its end
abbrev pub solution_line : List ℕ → InputFault → List ℕ
solution_line path input.Read = codes "examoffice: cannot read " ++ printed_name path
solution_line path (input.File f) = fault_line (fault.Solution f)
solution_line path input.NoMemory = fault_line fault.NoMemory

-- the line of an error in opening a database, without its end
abbrev pub open_line : Error → List ℕ
open_line (SqliteFailure OutOfMemory) = fault_line fault.NoMemory
open_line error = fault_line (fault.CannotOpen error)

-- the line of a refusal of the office, without its end; for a faulty file, the line of the file
abbrev pub store_line : StoreFault → List ℕ
store_line (store.Refused (refusal.File f)) = fault_line (fault.Instance f)
store_line f = fault_line (fault.Store f)

-- the line for words that are not UTF-8, without its end
abbrev pub not_text_line : List ℕ
not_text_line = codes "error: the words are not all UTF-8"
