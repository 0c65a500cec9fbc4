-- The names with which the lines about the causes of faults begin.
use Rattle.std.specs.Prelude.{ℕ, [], List, codes, if◌then◌else◌, string_bytes}
use Rattle.office_check.specs.Names.{printed_name}
use Rattle.office_program.specs.Sources.{is_stdin}
use Rattle.office_program.specs.declared.cause_lines.Source.{Source}
use Rattle.office_program.specs.declared.cause_lines.Source.TheVariants as source
use Rattle.office_program.specs.declared.faults.ProgramFault.{ProgramFault}
use Rattle.office_program.specs.declared.faults.ProgramFault.TheVariants as fault
use Rattle.office_program.specs.declared.words.Task.{Task}
use Rattle.office_program.specs.declared.words.Task.TheVariants.{Check, CheckAll, CheckAs, Compare, Explain, Export, Load, Places, Serve}

-- the name of what a run reads or writes
abbrev pub source_name : Source → List ℕ
source_name source.Stdin = codes "standard input"
source_name source.Stdout = codes "standard output"
source_name (source.File path) = printed_name path.now

-- the name of what a task reads by a path, `-` being standard input unless a session is loaded
abbrev pub input_name : Task → List ℕ → List ℕ
input_name (Load database instance) path = printed_name path
input_name (Check instance solution) path =
    if is_stdin path then codes "standard input" else printed_name path
input_name (CheckAs instance solution form) path =
    if is_stdin path then codes "standard input" else printed_name path
input_name (CheckAll session solutions form) path =
    if is_stdin path then codes "standard input" else printed_name path
input_name (Places instance solution exam) path =
    if is_stdin path then codes "standard input" else printed_name path
input_name (Compare session before after) path =
    if is_stdin path then codes "standard input" else printed_name path
input_name (Serve database terms) path =
    if is_stdin path then codes "standard input" else printed_name path
input_name (Export database) path =
    if is_stdin path then codes "standard input" else printed_name path
input_name (Explain words) path =
    if is_stdin path then codes "standard input" else printed_name path

-- the path of a task's instance
abbrev pub instance_path : Task → List ℕ
instance_path (Check instance solution) = string_bytes instance
instance_path (CheckAs instance solution form) = string_bytes instance
instance_path (CheckAll session solutions form) = string_bytes session
instance_path (Places instance solution exam) = string_bytes instance
instance_path (Compare session before after) = string_bytes session
instance_path (Load database instance) = string_bytes instance
instance_path (Serve database terms) = []
instance_path (Export database) = []
instance_path (Explain words) = []

-- the path of a task's solution
abbrev pub solution_path : Task → List ℕ
solution_path (Check instance solution) = string_bytes solution
solution_path (CheckAs instance solution form) = string_bytes solution
solution_path (Places instance solution exam) = string_bytes solution
solution_path (CheckAll session solutions form) = []
solution_path (Compare session before after) = []
solution_path (Load database instance) = []
solution_path (Serve database terms) = []
solution_path (Export database) = []
solution_path (Explain words) = []

-- the path of a task's database
abbrev pub database_path : Task → List ℕ
database_path (Load database instance) = string_bytes database
database_path (Serve database terms) = string_bytes database
database_path (Export database) = string_bytes database
database_path (Check instance solution) = []
database_path (CheckAs instance solution form) = []
database_path (CheckAll session solutions form) = []
database_path (Places instance solution exam) = []
database_path (Compare session before after) = []
database_path (Explain words) = []

-- the name with which the line about the cause of a task's fault begins, if there is one
abbrev pub cause_name : Task → ProgramFault → List ℕ
cause_name task (fault.CannotRead path) = input_name task path.now
cause_name task (fault.Instance of) = input_name task (instance_path task)
cause_name task (fault.Solution of) = input_name task (solution_path task)
cause_name task (fault.SolutionAt path of) = input_name task path.now
cause_name task (fault.CannotOpen error) = printed_name (database_path task)
cause_name task (fault.Store of) = printed_name (database_path task)
cause_name task (fault.NoExam exam) = []
cause_name task fault.NoPublication = []
cause_name task fault.CannotListen = []
cause_name task fault.CannotWrite = codes "standard output"
cause_name task fault.NoMemory = []
