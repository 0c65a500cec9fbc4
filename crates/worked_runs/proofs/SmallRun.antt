-- What the clause of a run says of `check` on the small session, whose files are known.
use Rattle.std.proofs.Common.{[], ◌≡◌, ◌≢◌, ap, Bool, ◌⊎◌, ◌++◌, ◌∷◌, ◌∙◌, ℕ, List, Option, Some, None, inl, inr, refl, subst, sym}
use Rattle.std.specs.Prelude.{codes, string_bytes}
use Rattle.std.specs.Io.KnownBytes.{Appends, Keeps}
use Rattle.std.proofs.KnownBytes.{Appends-kept, Appends-nil}
use Rattle.clap.specs.Kinds.{HasKind}
use Rattle.clap.specs.Words.{Text, kind_of}
use Rattle.clap.specs.declared.error.Error.{Error}
use Rattle.clap.specs.declared.error.kind.ErrorKind.{ErrorKind}
use Rattle.clap.specs.declared.error.kind.ErrorKind.TheVariants as kind
use Rattle.sqlite.specs.Held.{Held}
use Rattle.sqlite.specs.Store.{Ghosts}
use Rattle.exam_model.specs.Enrolments.{Enrolled}
use Rattle.exam_model.specs.Instance.{Session}
use Rattle.exam_model.specs.Timetable.{Placing}
use Rattle.office_files.specs.InstanceText.{InstanceText}
use Rattle.office_files.specs.SolutionText.{SolutionText}
use Rattle.office_check.specs.Check.{IsReported, ReportsFront}
use Rattle.office_check.specs.declared.checking.CheckFault.{CheckFault}
use Rattle.office_check.specs.declared.checking.CheckFault.TheVariants as check
use Rattle.office_messages.specs.Visits.{Visit}
use Rattle.office_output.specs.Writing.{WritesFront}
use Rattle.office_output.proofs.FrontLemmas.{front_none}
use Rattle.office_program.specs.FaultLines.{fault_line}
use Rattle.office_program.specs.Program.{IsTask, fault_of_words}
use Rattle.office_program.specs.Runs.{IsHelp, Refuses, Runs, RunsTask, corrects, does, fails, fails_to_help, helps, refuses, runs_command, runs_out}
use Rattle.office_program.specs.Sources.{IsTextOf, Known, OfFiles, source_at}
use Rattle.office_program.specs.TaskFaults.{IsCheckCause, check_line}
use Rattle.office_program.specs.World.{World}
use Rattle.office_program.specs.declared.ending.Ending.{Ending}
use Rattle.office_program.specs.declared.faults.ProgramFault.{ProgramFault}
use Rattle.office_program.specs.declared.faults.ProgramFault.TheVariants.{CannotWrite, NoMemory}
use Rattle.office_program.specs.declared.faults.ProgramFault.TheVariants as fault
use Rattle.office_program.specs.declared.lines.Lines as lines
use Rattle.office_program.specs.declared.words.Task.TheVariants.{Check}
use Rattle.worked_runs.specs.SmallSession.{check_words, session_text, solution_text, ten_lines}
use Rattle.worked_runs.proofs.SmallReport.{no_fault, no_solution_fault, small_report, small_status}
use Rattle.worked_runs.proofs.SmallWords.{no_mistake_to_check, task_of_check}

module _ (first second : Known) (session : first ≡ Some (Some session_text))
    (timetable : second ≡ Some (Some solution_text)) where
  -- texts of the two files are read as those of the small session
  of_texts : (X : Type 0) (P : Session → Enrolled → Placing → Type 0) → OfFiles first second P
      → ((I : Session) (E : Enrolled) (T : Placing) → InstanceText session_text I E
      → SolutionText solution_text I T → P I E T → X) → X
  of_texts X P of follows =
      let one : session_text ≡ of.instance = subst (λ k. IsTextOf k of.instance) session of.of_first in
      let two : solution_text ≡ of.solution = subst (λ k. IsTextOf k of.solution) timetable of.of_second in
      let read = of.texts.read in
      follows read.first.session read.first.enrolled read.placing
      (subst (λ t. InstanceText t read.first.session read.first.enrolled) (sym one) read.first.spells)
      (subst (λ t. SolutionText t read.first.session read.placing) (sym two) read.spells)
      of.texts.holds

  -- the report has ten lines, and no breach
  printed : (old new : Option (List ℕ)) (status : ℕ)
      → OfFiles first second (λ I E T. IsReported I E T old new status)
      → Appends old new ten_lines × (status ≡ 0)
  printed old new status of = of_texts _ _ of (λ I E T one two report. (
    subst (Appends old new) (small_report I E T one two) report.written,
    report.status ∙ small_status I E T one two,
  ))

  -- nothing is printed, which is a front of the ten lines too
  unprinted : (old new : Option (List ℕ)) → Keeps old new → WritesFront old new ten_lines
  unprinted old new kept = record {
    sent = [];
    unsent = ten_lines;
    whole = refl;
    written = Appends-kept old old new [] (Appends-nil old) kept;
  }

  -- after a fault, a front of the ten lines is printed
  front_printed : (shown : ProgramFault) (old new : Option (List ℕ))
      → (shown ≢ CannotWrite → Keeps old new)
      → (shown ≡ CannotWrite → OfFiles first second (λ I E T. ReportsFront I E T old new))
      → WritesFront old new ten_lines
  front_printed CannotWrite old new kept front = of_texts _ _ (front refl)
      (λ I E T one two part. subst (WritesFront old new) (small_report I E T one two) part)
  front_printed (fault.CannotRead path) old new kept front =
      unprinted old new (kept (λ is. let never : fault.CannotRead path ≡ CannotWrite = is in cc))
  front_printed (fault.Instance f) old new kept front =
      unprinted old new (kept (λ is. let never : fault.Instance f ≡ CannotWrite = is in cc))
  front_printed (fault.Solution f) old new kept front =
      unprinted old new (kept (λ is. let never : fault.Solution f ≡ CannotWrite = is in cc))
  front_printed (fault.SolutionAt path f) old new kept front =
      unprinted old new (kept (λ is. let never : fault.SolutionAt path f ≡ CannotWrite = is in cc))
  front_printed (fault.CannotOpen error) old new kept front =
      unprinted old new (kept (λ is. let never : fault.CannotOpen error ≡ CannotWrite = is in cc))
  front_printed (fault.Store f) old new kept front =
      unprinted old new (kept (λ is. let never : fault.Store f ≡ CannotWrite = is in cc))
  front_printed (fault.NoExam exam) old new kept front =
      unprinted old new (kept (λ is. let never : fault.NoExam exam ≡ CannotWrite = is in cc))
  front_printed fault.NoPublication old new kept front =
      unprinted old new (kept (λ is. let never : fault.NoPublication ≡ CannotWrite = is in cc))
  front_printed fault.CannotListen old new kept front =
      unprinted old new (kept (λ is. let never : fault.CannotListen ≡ CannotWrite = is in cc))
  front_printed fault.NoMemory old new kept front =
      unprinted old new (kept (λ is. let never : fault.NoMemory ≡ CannotWrite = is in cc))

  -- the only faults are those of memory
  of_memory : (shown : ProgramFault) (instance solution : List ℕ) (of : CheckFault)
      → fault_line shown ≡ check_line instance solution of → IsCheckCause first second of
      → (fault_line shown ≡ fault_line NoMemory) ⊎ (fault_line shown ≡ fault_line CannotWrite)
  of_memory shown instance solution check.ReadInstance line cause =
      absurd (rw session at cause.1)
  of_memory shown instance solution check.ReadSolution line cause =
      absurd (rw timetable at cause.1)
  of_memory shown instance solution (check.Instance f) line cause =
      let first_is = rw (session, timetable) at cause.0 in
      let never : None ≡ Some f = sym no_fault ∙ first_is in absurd cc
  of_memory shown instance solution (check.Solution f) line cause =
      let misread = rw (session, timetable) at cause.0 in
      let never : None ≡ Some f =
      sym (no_solution_fault misread.first.session misread.first.enrolled misread.first.spells)
      ∙ misread.fault in absurd cc
  of_memory shown instance solution check.Write line cause = inr line
  of_memory shown instance solution check.NoMemory line cause = inl line

-- the only error of words without a mistake is that of memory
pub only_memory : (error : Error) → HasKind [] error → kind_of error ≡ kind.OutOfMemory
only_memory error (inl is) = is
only_memory error (inr never) = absurd never

pub no_help : (k : ErrorKind) → k ≡ kind.OutOfMemory → IsHelp k → ⊥
no_help k memory (inl help) =
    let never : kind.OutOfMemory ≡ kind.DisplayHelp = sym memory ∙ help in absurd cc
no_help k memory (inr version) =
    let never : kind.OutOfMemory ≡ kind.DisplayVersion = sym memory ∙ version in absurd cc

-- ---- of a run with these words and files

module _ {S N E : Type 0} (store : Ghosts S)
    (AreOfPort : (old new : N) → ℕ → Bool → List Visit → Type 0) (told : lines.Ghosts E)
    (contents : E → Option (List ℕ)) (old new : World (Held S) N E) (end : Ending)
    (words : List Text) (is : words ≡ check_words)
    (session : old.files (codes "small.exam") ≡ Some (Some session_text))
    (timetable : old.files (codes "small.sol") ≡ Some (Some solution_text)) where
  -- the ten lines are printed and the status is 0; or a front of them is, it is 1, and the line of
  -- want of memory, or of a failed write, was tried to be written
  abbrev pub EndsSmall : Type 0
  EndsSmall = ((end.status ≡ 0) × Appends old.printed new.printed ten_lines)
      ⊎ ((end.status ≡ 1) × WritesFront old.printed new.printed ten_lines
      × (told.tells old.errors (fault_line NoMemory ++ 10 ∷ []) end.is_err_written new.errors
      ⊎ told.tells old.errors (fault_line CannotWrite ++ 10 ∷ []) end.is_err_written new.errors))

  -- a fact of the files of the two paths is one of these files
  at_paths : (P : Known → Known → Type 0) (instance solution : List ℕ)
      → instance ≡ codes "small.exam" → solution ≡ codes "small.sol"
      → P (source_at old.stdin old.files instance) (source_at old.stdin old.files solution)
      → P (old.files (codes "small.exam")) (old.files (codes "small.sol"))
  at_paths P instance solution one two of =
      subst (λ path. P (old.files (codes "small.exam")) (source_at old.stdin old.files path)) two
      (subst (λ path. P (source_at old.stdin old.files path)
      (source_at old.stdin old.files solution)) one of)

  of_task : (instance solution : _) → string_bytes instance ≡ codes "small.exam"
      → string_bytes solution ≡ codes "small.sol"
      → RunsTask store AreOfPort told contents old new (Check instance solution) end → EndsSmall
  of_task instance solution one two (does (done, judges)) =
      let both = printed _ _ session timetable old.printed new.printed end.status
      (at_paths (λ f s. OfFiles f s (λ I E T. IsReported I E T old.printed new.printed end.status))
      _ _ one two judges.printed) in
      inl (both.1, both.0)
  of_task instance solution one two (fails run) =
      let cause = at_paths (λ f s. IsCheckCause f s run.fails.of.of) _ _ one two
      (run.fails.of.cause (rw (one, two) refl)) in
      let same : run.before.errors ≡ old.errors =
      ap (λ (w : World (Held S) N E). w.errors) run.fails.leaves.reads.rest in
      let printed : new.printed ≡ run.before.printed =
      ap (λ (w : World (Held S) N E). w.printed) run.complains.rest in
      let line : told.tells old.errors (fault_line run.shown ++ 10 ∷ []) end.is_err_written new.errors =
      subst (λ w. told.tells w (fault_line run.shown ++ 10 ∷ []) end.is_err_written new.errors) same
      run.complains.line in
      inr (
        run.complains.status,
        subst (λ is. WritesFront old.printed is ten_lines) (sym printed)
            (front_printed _ _ session timetable run.shown old.printed run.before.printed
            run.fails.leaves.unprinted (λ is. at_paths
            (λ f s. OfFiles f s (λ I E T. ReportsFront I E T old.printed run.before.printed))
            _ _ one two (run.fails.leaves.front is))),
        elim (of_memory _ _ session timetable run.shown (string_bytes instance)
            (string_bytes solution) run.fails.of.of run.fails.of.line cause) [
              | inl e ↦ inl (subst (λ l. told.tells old.errors (l ++ 10 ∷ []) end.is_err_written
                  new.errors) e line)
              | inr e ↦ inr (subst (λ l. told.tells old.errors (l ++ 10 ∷ []) end.is_err_written
                  new.errors) e line)
            ],
      )

  of_refusal : (error : Error) → kind_of error ≡ kind.OutOfMemory
      → Refuses store AreOfPort told contents old new error end → EndsSmall
  of_refusal error memory (runs_out of complains) = inr (
    complains.status,
    subst (λ is. WritesFront old.printed is ten_lines)
        (sym (ap (λ (w : World (Held S) N E). w.printed) complains.rest))
        (front_none old.printed ten_lines),
    inl complains.line,
  )
  of_refusal error memory (corrects mistake told_so) = absurd (mistake.0 memory)
  of_refusal error memory (helps help done) = absurd (no_help _ memory help)
  of_refusal error memory (fails_to_help help failed) = absurd (no_help _ memory help)

  pub ends_small : Runs store AreOfPort told contents old new words end → EndsSmall
  ends_small (refuses error kinds refused) =
      let none : fault_of_words words ≡ [] = ap fault_of_words is ∙ no_mistake_to_check in
      of_refusal error (only_memory error (subst (λ k. HasKind k error) none kinds)) refused
  ends_small (runs_command task right named runs) =
      task_of_check (λ task. RunsTask store AreOfPort told contents old new task end → EndsSmall)
      of_task task (subst (λ w. IsTask w task) is named) runs
