-- How the faults of each task are shown: their lines, and which faults a task has.
use Rattle.std.specs.Prelude.{◌≡◌, ◌≢◌, ◌≤◌, ◌⊎◌, ℕ, ◌++◌, ◌∷◌, [], List, None, Some, codes, false, length}
use Rattle.office_model.specs.declared.fault.StoreFault.{StoreFault}
use Rattle.office_model.specs.declared.fault.StoreFault.TheVariants.{Store}
use Rattle.sqlite.specs.declared.error.Error.{Error}
use Rattle.office_check.specs.Names.{printed_name}
use Rattle.office_check.specs.Refusing.{Refuses}
use Rattle.office_check.specs.declared.checking.CheckFault.{CheckFault}
use Rattle.office_check.specs.declared.checking.CheckFault.TheVariants as check
use Rattle.office_check.specs.Compare.{RefusesComparison}
use Rattle.office_check.specs.declared.comparing.CompareFault.{CompareFault}
use Rattle.office_check.specs.declared.comparing.CompareFault.TheVariants as compare
use Rattle.office_program.specs.declared.exporting.ExportFault.{ExportFault}
use Rattle.office_program.specs.declared.exporting.ExportFault.TheVariants as export
use Rattle.office_program.specs.declared.loading.LoadFault.{LoadFault}
use Rattle.office_program.specs.declared.loading.LoadFault.TheVariants as load
use Rattle.office_connections.specs.declared.running.RunFault.{RunFault}
use Rattle.office_connections.specs.declared.running.RunFault.TheVariants as run
use Rattle.exam_terms.specs.declared.limits.TheConstants.{INSTANCE_BYTES}
use Rattle.office_files.specs.Inputs.{RefusesText}
use Rattle.office_files.specs.declared.fault.FileFault.{FileFault}
use Rattle.office_files.specs.declared.inputs.InputFault.{InputFault}
use Rattle.office_files.specs.declared.inputs.InputFault.TheVariants as input
use Rattle.office_program.specs.declared.faults.ProgramFault.{ProgramFault}
use Rattle.office_program.specs.declared.faults.ProgramFault.TheVariants as fault
use Rattle.office_program.specs.CheckAll.{IsInstanceCause}
use Rattle.office_program.specs.Load.{NamesTextFault}
use Rattle.office_program.specs.Sources.{IsTextOf, Known, MayNotOpen, OfFiles, is_stdin_shared}
use Rattle.office_program.specs.FaultLines.{fault_line, input_line, open_line, store_line}

-- the line of a fault of `check` on the files of two paths, without its end
abbrev pub check_line : List ℕ → List ℕ → CheckFault → List ℕ
check_line instance solution check.ReadInstance =
    codes "examoffice: cannot read " ++ printed_name instance
check_line instance solution check.ReadSolution =
    codes "examoffice: cannot read " ++ printed_name solution
check_line instance solution (check.Instance f) = fault_line (fault.Instance f)
check_line instance solution (check.Solution f) = fault_line (fault.Solution f)
check_line instance solution check.Write = fault_line fault.CannotWrite
check_line instance solution check.NoMemory = fault_line fault.NoMemory

-- of two files, the one that the fault says can't be read isn't one whose bytes are known
abbrev pub MayNotRead : Known → Known → CheckFault → Type 0
MayNotRead first second check.ReadInstance = MayNotOpen first
MayNotRead first second check.ReadSolution = MayNotOpen second
MayNotRead first second of = Unit {0}

-- the first reason not to judge two files: in this order, the one can't be opened, the other can't
-- be opened, or the first fault of their texts, as far as is known
abbrev pub IsFirstCause : Known → Known → CheckFault → Type 0
IsFirstCause (Some None) second of = of ≡ check.ReadInstance
IsFirstCause (Some (Some instance)) (Some None) of = of ≡ check.ReadSolution
IsFirstCause (Some (Some instance)) (Some (Some solution)) of = Refuses instance solution of
IsFirstCause (Some (Some instance)) None of = Unit {0}
IsFirstCause None second of = Unit {0}

-- why two files aren't judged
abbrev pub IsCheckCause : Known → Known → CheckFault → Type 0
IsCheckCause first second of = IsFirstCause first second of × MayNotRead first second of

-- the fault is shown as one of `check` on the files of two paths, and is theirs; of these one at most
-- is standard input
pub record IsOfCheck (instance solution : List ℕ) (files : List ℕ → Known) (shown : ProgramFault)
    : Type 0 where
  pub of : CheckFault
  pub line : fault_line shown ≡ check_line instance solution of
  pub cause : is_stdin_shared (instance ∷ solution ∷ []) ≡ false
      → IsCheckCause (files instance) (files solution) of

-- the fault is shown as one of `check` on the files of two paths; or as the lack of the exam in their
-- session
abbrev pub IsOfPlaces : List ℕ → List ℕ → ℕ → (List ℕ → Known) → ProgramFault → Type 0
IsOfPlaces instance solution exam files shown =
    IsOfCheck instance solution files shown
    ⊎ ((shown ≡ fault.NoExam exam)
    × OfFiles (files instance) (files solution) (λ I E T. length I.exams ≤ exam))

-- the line of a fault of a solution of `compare`, after its path
abbrev pub solution_line_at : List ℕ → FileFault → List ℕ
solution_line_at path f = printed_name path ++ codes ": " ++ fault_line (fault.Solution f)

-- the line of a fault of `compare` on the files of three paths, without its end
abbrev pub compare_line : List ℕ → List ℕ → List ℕ → CompareFault → List ℕ
compare_line session before after (compare.Check (check.Solution f)) = solution_line_at before f
compare_line session before after (compare.Check f) = check_line session before f
compare_line session before after compare.ReadAfter =
    codes "examoffice: cannot read " ++ printed_name after
compare_line session before after (compare.After f) = solution_line_at after f

-- of three files, the one that the fault says can't be read isn't one whose bytes are known
abbrev pub MayNotReadOne : Known → Known → Known → CompareFault → Type 0
MayNotReadOne first second third (compare.Check of) = MayNotRead first second of
MayNotReadOne first second third compare.ReadAfter = MayNotOpen third
MayNotReadOne first second third (compare.After f) = Unit {0}

-- the first reason not to compare three files: in this order, the session can't be opened, the
-- first solution, the second one, or the first fault of their texts, as far as is known
abbrev pub IsFirstOfThree : Known → Known → Known → CompareFault → Type 0
IsFirstOfThree (Some None) second third of = of ≡ compare.Check check.ReadInstance
IsFirstOfThree (Some (Some one)) (Some None) third of = of ≡ compare.Check check.ReadSolution
IsFirstOfThree (Some (Some one)) (Some (Some two)) (Some None) of = of ≡ compare.ReadAfter
IsFirstOfThree (Some (Some one)) (Some (Some two)) (Some (Some three)) of =
    RefusesComparison one two three of
IsFirstOfThree (Some (Some one)) (Some (Some two)) None of = Unit {0}
IsFirstOfThree (Some (Some one)) None third of = Unit {0}
IsFirstOfThree None second third of = Unit {0}

-- why three files aren't compared
abbrev pub IsCompareCause : Known → Known → Known → CompareFault → Type 0
IsCompareCause first second third of =
    IsFirstOfThree first second third of × MayNotReadOne first second third of

-- the fault is shown as one of `compare` on the files of three paths, and is theirs; of these one at
-- most is standard input
pub record IsOfCompare (session before after : List ℕ) (files : List ℕ → Known)
    (shown : ProgramFault) : Type 0 where
  pub of : CompareFault
  pub line : fault_line shown ≡ compare_line session before after of
  pub cause : is_stdin_shared (session ∷ before ∷ after ∷ []) ≡ false
      → IsCompareCause (files session) (files before) (files after) of

-- the fault is shown as one of the session of this path, and is that of its file; or it is one of
-- writing
abbrev pub IsOfCheckAll : List ℕ → (List ℕ → Known) → ProgramFault → Type 0
IsOfCheckAll session files shown =
    ((of : InputFault) × IsInstanceCause (files session) of
    × (fault_line shown ≡ input_line session of)) ⊎ (shown ≡ fault.CannotWrite)

-- the line of a fault of `load`, without its end
abbrev pub load_line : LoadFault → List ℕ
load_line (load.Store f) = store_line f
load_line load.Write = fault_line fault.CannotWrite

-- the fault is shown as one of a database, or of loading the text into its office; a fault of the
-- text is its first
abbrev pub IsOfOffice : List ℕ → ProgramFault → Type 0
IsOfOffice text shown =
    ((of : Error) × (fault_line shown ≡ open_line of))
    ⊎ ((of : LoadFault) × NamesTextFault text of × (fault_line shown ≡ load_line of))

-- why the text of a file isn't taken: it can't be opened, or is too long, as far as is known; a
-- file whose bytes are known can be read
abbrev pub IsTextCause : Known → InputFault → Type 0
IsTextCause None of = Unit {0}
IsTextCause (Some None) of = of ≡ input.Read
IsTextCause (Some (Some text)) of = RefusesText INSTANCE_BYTES text of × (of ≢ input.Read)

-- the fault is shown as one of the file of this path, and is that of its text; or it is one of the
-- office that its text is loaded into
abbrev pub IsOfLoad : List ℕ → (List ℕ → Known) → ProgramFault → Type 0
IsOfLoad path files shown =
    ((of : InputFault) × IsTextCause (files path) of × (fault_line shown ≡ input_line path of))
    ⊎ ((text : List ℕ) × IsTextOf (files path) text × IsOfOffice text shown)

-- the line of a fault of a server's run, without its end
abbrev pub run_line : RunFault → List ℕ
run_line run.Listen = fault_line fault.CannotListen
run_line run.Write = fault_line fault.CannotWrite
run_line run.Shut = fault_line (fault.Store Store)

-- the fault is shown as one of a database, of the office in it, or of a server's run
abbrev pub IsOfServe : ProgramFault → Type 0
IsOfServe shown =
    ((of : Error) × (fault_line shown ≡ open_line of))
    ⊎ (((of : StoreFault) × (fault_line shown ≡ fault_line (fault.Store of)))
    ⊎ ((of : RunFault) × (fault_line shown ≡ run_line of)))

-- the line of a fault of `export`, without its end
abbrev pub export_line : ExportFault → List ℕ
export_line (export.Store f) = fault_line (fault.Store f)
export_line export.NoPublication = fault_line fault.NoPublication
export_line export.NoMemory = fault_line fault.NoMemory
export_line export.Write = fault_line fault.CannotWrite

-- the fault is shown as one of a database, or of writing its office's publication
abbrev pub IsOfExport : ProgramFault → Type 0
IsOfExport shown =
    ((of : Error) × (fault_line shown ≡ open_line of))
    ⊎ ((of : ExportFault) × (fault_line shown ≡ export_line of))
