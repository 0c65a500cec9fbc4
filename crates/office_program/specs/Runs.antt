-- What a run makes of the machine that it is on: one outcome for each way in which it may end.
use Rattle.std.specs.Prelude.{◌≡◌, ◌≢◌, ◌⊎◌, ◌++◌, ◌∷◌, [], Bool, Err, List, Ok, Option, map, string_bytes, true, ℕ}
use Rattle.std.specs.Io.KnownBytes.{Appends, Keeps}
use Rattle.clap.specs.Kinds.{HasKind}
use Rattle.clap.specs.Words.{Text, kind_of}
use Rattle.clap.specs.declared.error.Error.{Error}
use Rattle.clap.specs.declared.error.kind.ErrorKind.{ErrorKind}
use Rattle.clap.specs.declared.error.kind.ErrorKind.TheVariants as kind
use Rattle.sqlite.specs.Held.{Held}
use Rattle.sqlite.specs.Store.{Ghosts}
use Rattle.exam_model.specs.Enrolments.{Enrolled}
use Rattle.exam_model.specs.Instance.{Session}
use Rattle.exam_model.specs.Timetable.{Placing}
use Rattle.office_check.specs.Check.{IsReported, ReportsFront}
use Rattle.office_check.specs.Compare.{Compares, ComparesFront}
use Rattle.office_check.specs.Listing.{WritesPlaces, WritesPlacesFront}
use Rattle.office_check.specs.declared.judging.LineForm.{LineForm}
use Rattle.office_messages.specs.Visits.{Visit}
use Rattle.office_program.specs.CheckAll.{JudgesAll, StopsAll}
use Rattle.office_program.specs.CheckForms.{PrintsForm, PrintsFormFront}
use Rattle.office_program.specs.Databases.{ExportsIn, IsUnread, LeavesUnexported, LeavesUnloaded, LoadsIn, ServesNamed, UsesDatabase}
use Rattle.office_output.specs.Writing.{WritesFront}
use Rattle.office_program.specs.Export.{PrintsSolution, PrintsSolutionFront}
use Rattle.office_program.specs.FaultLines.{fault_line}
use Rattle.office_program.specs.Load.{PrintsCounts, PrintsCountsFront}
use Rattle.office_program.specs.Program.{IsMistake, IsTask, fault_of_words}
use Rattle.office_program.specs.Serve.{LeavesPort, PrintsServed}
use Rattle.office_program.specs.Sources.{IsTextOf, OfFiles, IsFile, OfThreeFiles, source_at}
use Rattle.office_program.specs.Tasks.{IsOfTask}
use Rattle.office_program.specs.World.{World}
use Rattle.office_program.specs.declared.ending.Ending.{Ending}
use Rattle.office_program.specs.declared.faults.ProgramFault.{ProgramFault}
use Rattle.office_program.specs.declared.faults.ProgramFault.TheVariants.{CannotWrite, NoMemory}
use Rattle.office_program.specs.declared.lines.Lines as lines
use Rattle.office_program.specs.declared.words.Task.{Task}
use Rattle.office_program.specs.declared.words.Task.TheVariants.{Check, CheckAll, CheckAs, Compare, Explain, Export, Load, Places, Serve}
use Rattle.office_program.specs.declared.words.Terms.{Terms}

-- the error is a call for help or for the version
abbrev pub IsHelp : ErrorKind → Type 0
IsHelp k = (k ≡ kind.DisplayHelp) ⊎ (k ≡ kind.DisplayVersion)

-- a run with this status, whose lines of faults, if there are any, were all written
abbrev pub IsDone : Ending → ℕ → Type 0
IsDone end status = end ≡ record { status = status; is_err_written = true }

module _ {S N E : Type 0} (store : Ghosts S)
    (AreOfPort : (old new : N) → ℕ → Bool → List Visit → Type 0)
    (told : lines.Ghosts E) (contents : E → Option (List ℕ))
    (old new : World (Held S) N E) where
  -- ---- tasks on files

  -- a task on files has printed, and has read standard input if a path is `-`; nothing else differs
  pub record Reads (AreFiles : Type 0) : Type 0 where
    pub unread : AreFiles → new.stdin ≡ old.stdin
    pub rest : new ≡ record old { stdin = new.stdin; printed = new.printed }

  -- a text on the session and the timetable of two files is printed
  pub record Judges (instance solution : List ℕ)
      (IsPrinted : Session → Enrolled → Placing → (before after : Option (List ℕ)) → Type 0)
      : Type 0 where
    pub printed : OfFiles (source_at old.stdin old.files instance)
        (source_at old.stdin old.files solution)
        (λ I E T. IsPrinted I E T old.printed new.printed)
    pub reads : Reads (IsFile instance × IsFile solution)

  -- the line of each solution without a fault is printed, and that of each other one is told
  pub record JudgesEach (session : List ℕ) (solutions : List (List ℕ)) (form : LineForm)
      (end : Ending) : Type 0 where
    pub judged : JudgesAll told.tells session old.files form solutions old.stdin new.stdin
        old.printed new.printed old.errors new.errors end.is_err_written end.status
    pub rest : new ≡ record old
        { stdin = new.stdin; printed = new.printed; errors = new.errors }

  -- what differs between two timetables of a session is printed
  pub record ComparesFiles (session before after : List ℕ) : Type 0 where
    pub printed : OfThreeFiles (source_at old.stdin old.files session)
        (source_at old.stdin old.files before) (source_at old.stdin old.files after)
        (λ one two three. Compares one two three old.printed new.printed)
    pub reads : Reads (IsFile session × IsFile before × IsFile after)

  -- ---- tasks on a database

  -- the text of the file is loaded into the database at the path, and its counts are printed
  pub record LoadsFile (database instance : List ℕ) : Type 0 where
    pub text : List ℕ
    pub of : IsTextOf (old.files instance) text
    pub printed : PrintsCounts text old.printed new.printed
    pub stored : UsesDatabase old.databases new.databases database
        (LoadsIn store text old.printed new.printed)
    pub rest : new ≡ record old { databases = new.databases; printed = new.printed }

  -- the publication in the database at the path is printed
  pub record ExportsFrom (database : List ℕ) : Type 0 where
    pub printed : PrintsSolution old.printed new.printed
    pub used : UsesDatabase old.databases new.databases database
        (ExportsIn store old.printed new.printed)
    pub rest : new ≡ record old { databases = new.databases; printed = new.printed }

  -- the office in the database at the path served the clients of the port
  pub record ServesAt (database : List ℕ) (terms : Terms) (end : Ending) : Type 0 where
    pub printed : PrintsServed terms old.printed new.printed (contents old.errors)
        (contents new.errors) end
    pub served : ServesNamed store old.databases new.databases
        (new.ports ≡ old.ports) (AreOfPort old.ports new.ports)
        (contents old.errors) (contents new.errors) (Ok end) database terms
    pub rest : new ≡ record old {
      databases = new.databases;
      ports = new.ports;
      printed = new.printed;
      errors = new.errors;
    }

  -- the task of the words is done, and ended so
  abbrev pub Does : Ending → Task → Type 0
  Does end (Check instance solution) =
      IsDone end end.status × Judges (string_bytes instance) (string_bytes solution)
      (λ I E T before after. IsReported I E T before after end.status)
  Does end (CheckAs instance solution form) =
      IsDone end end.status × Judges (string_bytes instance) (string_bytes solution)
      (λ I E T before after. PrintsForm form I E T (string_bytes solution) before after end.status)
  Does end (CheckAll session solutions form) =
      JudgesEach (string_bytes session) (map string_bytes solutions.items) form end
  Does end (Places instance solution exam) =
      IsDone end 0 × Judges (string_bytes instance) (string_bytes solution)
      (λ I E T before after. WritesPlaces I E T exam before after)
  Does end (Compare session before after) =
      IsDone end 0
      × ComparesFiles (string_bytes session) (string_bytes before) (string_bytes after)
  Does end (Load database instance) =
      IsDone end 0 × LoadsFile (string_bytes database) (string_bytes instance)
  Does end (Serve database terms) = ServesAt (string_bytes database) terms end
  Does end (Export database) = IsDone end 0 × ExportsFrom (string_bytes database)
  Does end (Explain words) =
      IsDone end 0 × Appends old.printed new.printed (words.now ++ 10 ∷ [])
      × (new ≡ record old { printed = new.printed })

  -- ---- the task of the words failed: what is left when the line of its fault is to be written

  -- unless it is a fault of writing, nothing is printed
  abbrev pub IsUnprinted : ProgramFault → Type 0
  IsUnprinted shown = shown ≢ CannotWrite → Keeps old.printed new.printed

  -- after a fault of writing, this front was printed
  abbrev pub HasFront : ProgramFault → (Option (List ℕ) → Option (List ℕ) → Type 0) → Type 0
  HasFront shown IsFront = shown ≡ CannotWrite → IsFront old.printed new.printed

  -- a task on two files failed
  pub record FailsToJudge (instance solution : List ℕ) (shown : ProgramFault)
      (IsFront : Session → Enrolled → Placing → (before after : Option (List ℕ)) → Type 0)
      : Type 0 where
    pub unprinted : IsUnprinted shown
    pub front : HasFront shown (λ before after. OfFiles (source_at old.stdin old.files instance)
        (source_at old.stdin old.files solution) (λ I E T. IsFront I E T before after))
    pub reads : Reads (IsFile instance × IsFile solution)

  -- `compare` failed
  pub record FailsToCompare (session before after : List ℕ) (shown : ProgramFault) : Type 0 where
    pub unprinted : IsUnprinted shown
    pub front : HasFront shown (λ was is. OfThreeFiles (source_at old.stdin old.files session)
        (source_at old.stdin old.files before) (source_at old.stdin old.files after)
        (λ one two three. ComparesFront one two three was is))
    pub reads : Reads (IsFile session × IsFile before × IsFile after)

  -- `check-all` failed, and told nobody; or a line could not be written
  pub record FailsToJudgeEach (session : List ℕ) (solutions : List (List ℕ)) (form : LineForm)
      (shown : ProgramFault) : Type 0 where
    pub unprinted : IsUnprinted shown
    pub front : HasFront shown (λ before after. StopsAll told.tells session old.files form solutions
        old.stdin before after old.errors new.errors)
    pub untold : shown ≢ CannotWrite → new.errors ≡ old.errors
    pub rest : new ≡ record old
        { stdin = new.stdin; printed = new.printed; errors = new.errors }

  -- `load` failed: its file can't be taken, or its database is left so
  pub record FailsToLoadFile (database instance : List ℕ) (shown : ProgramFault) : Type 0 where
    pub unprinted : IsUnprinted shown
    pub front : HasFront shown (λ before after. (text : List ℕ) × IsTextOf (old.files instance) text
        × PrintsCountsFront text before after)
    pub left : IsUnread old.databases new.databases instance (old.files instance) shown
        ⊎ ((text : List ℕ) × IsTextOf (old.files instance) text
        × LeavesUnloaded store old.databases new.databases database text shown)
    pub rest : new ≡ record old { databases = new.databases; printed = new.printed }

  -- `export` failed, and left its database so
  pub record FailsToExportFrom (database : List ℕ) (shown : ProgramFault) : Type 0 where
    pub unprinted : IsUnprinted shown
    pub front : HasFront shown PrintsSolutionFront
    pub left : LeavesUnexported store old.databases new.databases database shown
    pub rest : new ≡ record old { databases = new.databases; printed = new.printed }

  -- `serve` failed, after it served these clients
  pub record FailsToServe (database : List ℕ) (terms : Terms) (shown : ProgramFault) : Type 0 where
    pub port : LeavesPort terms old.printed new.printed shown
    pub served : ServesNamed store old.databases new.databases
        (new.ports ≡ old.ports) (AreOfPort old.ports new.ports)
        (contents old.errors) (contents new.errors) (Err shown) database terms
    pub rest : new ≡ record old {
      databases = new.databases;
      ports = new.ports;
      printed = new.printed;
      errors = new.errors;
    }

  -- a task that failed with this fault leaves this
  abbrev pub Leaves : ProgramFault → Task → Type 0
  Leaves shown (Check instance solution) =
      FailsToJudge (string_bytes instance) (string_bytes solution) shown ReportsFront
  Leaves shown (CheckAs instance solution form) =
      FailsToJudge (string_bytes instance) (string_bytes solution) shown
      (λ I E T before after. PrintsFormFront form I E T (string_bytes solution) before after)
  Leaves shown (CheckAll session solutions form) =
      FailsToJudgeEach (string_bytes session) (map string_bytes solutions.items) form shown
  Leaves shown (Places instance solution exam) =
      FailsToJudge (string_bytes instance) (string_bytes solution) shown
      (λ I E T before after. WritesPlacesFront I E T exam before after)
  Leaves shown (Compare session before after) =
      FailsToCompare (string_bytes session) (string_bytes before) (string_bytes after) shown
  Leaves shown (Load database instance) =
      FailsToLoadFile (string_bytes database) (string_bytes instance) shown
  Leaves shown (Serve database terms) = FailsToServe (string_bytes database) terms shown
  Leaves shown (Export database) = FailsToExportFrom (string_bytes database) shown
  Leaves shown (Explain words) =
      WritesFront old.printed new.printed (words.now ++ 10 ∷ [])
      × (new ≡ record old { printed = new.printed })

  -- the fault is one of the task's files, database or port, or of writing
  pub record Fails (task : Task) (shown : ProgramFault) : Type 0 where
    pub of : IsOfTask old.stdin old.files task shown
    pub leaves : Leaves shown task

  -- ---- the line of a fault

  -- the line of a fault was tried to be written, and `end` says whether it was written whole;
  -- nothing else differs
  pub record Complains (shown : ProgramFault) (end : Ending) : Type 0 where
    pub status : end.status ≡ 1
    pub line : told.tells old.errors (fault_line shown ++ 10 ∷ []) end.is_err_written new.errors
    pub rest : new ≡ record old { errors = new.errors }

module _ {S N E : Type 0} (store : Ghosts S)
    (AreOfPort : (old new : N) → ℕ → Bool → List Visit → Type 0)
    (told : lines.Ghosts E) (contents : E → Option (List ℕ))
    (old new : World (Held S) N E) where
  -- a task failed, and then the line of its fault was tried to be written
  pub record FailsAndComplains (task : Task) (end : Ending) : Type 0 where
    pub shown : ProgramFault
    pub before : World (Held S) N E
    pub fails : Fails store AreOfPort told contents old before task shown
    pub complains : Complains store AreOfPort told contents before new shown end

  -- a task is done, or failed
  pub data RunsTask (task : Task) (end : Ending) : Type 0 where
    does : Does store AreOfPort told contents old new end task → RunsTask task end
    fails : FailsAndComplains task end → RunsTask task end

  -- help or the version is printed
  pub record Helps (end : Ending) : Type 0 where
    pub done : IsDone end 0
    pub rest : new ≡ record old { printed = new.printed }

  -- it could not be printed
  pub record FailsToHelp (end : Ending) : Type 0 where
    pub complains : Complains store AreOfPort told contents
        (record old { printed = new.printed }) new CannotWrite end

  -- the text of the mistake was tried to be written, and `end` says whether it was written whole
  pub record Corrects (error : Error) (end : Ending) : Type 0 where
    pub status : end.status ≡ 2
    pub line : told.tells_mistake old.errors error end.is_err_written new.errors
    pub rest : new ≡ record old { errors = new.errors }

  -- words with this error are no command: memory ran out for them, they have a mistake, or they ask
  -- for help or for the version
  pub data Refuses (error : Error) (end : Ending) : Type 0 where
    runs_out : (kind_of error ≡ kind.OutOfMemory)
        → Complains store AreOfPort told contents old new NoMemory end → Refuses error end
    corrects : IsMistake (kind_of error) → Corrects error end → Refuses error end
    helps : IsHelp (kind_of error) → Helps end → Refuses error end
    fails_to_help : IsHelp (kind_of error) → FailsToHelp end → Refuses error end

  -- what a run with these words makes of its machine, and how it ends
  pub data Runs (words : List Text) (end : Ending) : Type 0 where
    -- the words have an error of these kinds
    refuses : (error : Error) → HasKind (fault_of_words words) error → Refuses error end
        → Runs words end
    -- they have none, and this is their task
    runs_command : (task : Task) → (fault_of_words words ≡ []) → IsTask words task
        → RunsTask task end → Runs words end
