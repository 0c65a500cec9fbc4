-- The faults of a task.
use Rattle.std.specs.Prelude.{◌≡◌, ℕ, List, Option, string_bytes}
use Rattle.office_program.specs.Sources.{Known, source_at}
use Rattle.office_program.specs.TaskFaults.{IsOfCheck, IsOfCheckAll, IsOfCompare, IsOfExport, IsOfLoad, IsOfPlaces, IsOfServe}
use Rattle.office_program.specs.declared.faults.ProgramFault.{ProgramFault}
use Rattle.office_program.specs.declared.faults.ProgramFault.TheVariants.{CannotWrite}
use Rattle.office_program.specs.declared.words.Task.{Task}
use Rattle.office_program.specs.declared.words.Task.TheVariants.{Check, CheckAll, CheckAs, Compare, Explain, Export, Load, Places, Serve}

-- the fault is one of the files that the task names; `explain` can only fail to write
abbrev pub IsOfTask : Option (List ℕ) → (List ℕ → Known) → Task → ProgramFault → Type 0
IsOfTask stdin files (Check instance solution) shown =
    IsOfCheck (string_bytes instance) (string_bytes solution) (source_at stdin files) shown
IsOfTask stdin files (CheckAs instance solution form) shown =
    IsOfCheck (string_bytes instance) (string_bytes solution) (source_at stdin files) shown
IsOfTask stdin files (CheckAll session solutions form) shown =
    IsOfCheckAll (string_bytes session) (source_at stdin files) shown
IsOfTask stdin files (Places instance solution exam) shown =
    IsOfPlaces (string_bytes instance) (string_bytes solution) exam (source_at stdin files) shown
IsOfTask stdin files (Compare session before after) shown =
    IsOfCompare (string_bytes session) (string_bytes before) (string_bytes after)
    (source_at stdin files) shown
IsOfTask stdin files (Load database instance) shown = IsOfLoad (string_bytes instance) files shown
IsOfTask stdin files (Serve database terms) shown = IsOfServe shown
IsOfTask stdin files (Export database) shown = IsOfExport shown
IsOfTask stdin files (Explain words) shown = shown ≡ CannotWrite
