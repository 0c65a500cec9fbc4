-- The output of `check-all`: a line for each solution that is judged, and one for each fault.
use Rattle.std.specs.Prelude.{◌≡◌, ◌≢◌, ◌⊎◌, ◌++◌, ◌∷◌, [], ℕ, ◌==◌, Bool, true, false, not, List}
use Rattle.std.specs.Prelude.{MatchBool, None, Option, Some, codes, if◌then◌else◌, length, map, string_bytes, ◌&&◌, ◌||◌}
use Rattle.std.specs.List.{flat_map, list_any}
use Rattle.std.specs.Io.KnownBytes.{Appends}
use Rattle.exam_model.specs.Enrolments.{Enrolled}
use Rattle.exam_model.specs.Instance.{Session}
use Rattle.office_files.specs.FirstFault.{first_fault, first_solution_fault}
use Rattle.office_files.specs.Inputs.{RefusesFile}
use Rattle.office_files.specs.InstanceText.{InstanceText}
use Rattle.office_files.specs.declared.inputs.InputFault.{InputFault}
use Rattle.office_files.specs.declared.inputs.InputFault.TheVariants as input
use Rattle.office_check.specs.Names.{printed_name}
use Rattle.office_check.specs.Verdicts.{IsVerdictOn, verdict_line}
use Rattle.office_check.specs.declared.judging.LineForm.{LineForm}
use Rattle.office_check.specs.declared.judging.Verdict.{Verdict}
use Rattle.office_output.specs.Writing.{WritesFront}
use Rattle.office_program.specs.FaultLines.{solution_line}
use Rattle.office_program.specs.Sources.{IsFile, IsTextOf, Known, source_at}
use Rattle.office_program.specs.declared.judging.Found.{Found}
use Rattle.office_program.specs.declared.judging.VerdictLine.{VerdictLine}

-- why the file of a session isn't taken: it can't be opened, or its text has this first fault, as
-- far as is known; a file whose bytes are known can be read
abbrev pub IsInstanceCause : Known → InputFault → Type 0
IsInstanceCause None fault = Unit {0}
IsInstanceCause (Some None) fault = fault ≡ input.Read
IsInstanceCause (Some (Some text)) fault =
    RefusesFile (first_fault text) fault × (fault ≢ input.Read)

-- the same for the file of a solution of a session
abbrev pub IsSolutionCause : Session → Known → InputFault → Type 0
IsSolutionCause I None fault = Unit {0}
IsSolutionCause I (Some None) fault = fault ≡ input.Read
IsSolutionCause I (Some (Some text)) fault =
    RefusesFile (first_solution_fault I text) fault × (fault ≢ input.Read)

-- the outcome of one solution: the text that is printed on `out`, and the text written to `err`
pub record Outcome : Type 0 where
  pub path : List ℕ
  pub printed : List ℕ
  pub said : List ℕ
  pub is_faulty : Bool
  pub has_breach : Bool

-- the solution was judged by the session: the line of the verdict on the text of its file is printed
pub record IsJudged (I : Session) (E : Enrolled) (files : List ℕ → Known) (form : LineForm)
    (o : Outcome) : Type 0 where
  pub solution : List ℕ
  pub of : IsTextOf (files o.path) solution
  pub verdict : Verdict
  pub judged : IsVerdictOn I E solution verdict
  pub printed : o.printed ≡ verdict_line form o.path verdict
  pub said : o.said ≡ []
  pub sound : o.is_faulty ≡ false
  pub breach : o.has_breach ≡ not (length verdict.breaches.items == 0)

-- the file of the solution has a fault: the fault's line is written to `err`, after the path
pub record IsFaulty (I : Session) (files : List ℕ → Known) (o : Outcome) : Type 0 where
  pub fault : InputFault
  pub cause : IsSolutionCause I (files o.path) fault
  pub printed : o.printed ≡ []
  pub said : o.said ≡ printed_name o.path ++ codes ": " ++ solution_line o.path fault ++ 10 ∷ []
  pub faulty : o.is_faulty ≡ true
  pub breach : o.has_breach ≡ false

-- the solution was judged, or has a fault
abbrev pub IsOutcome : Session → Enrolled → (List ℕ → Known) → LineForm → Outcome → Type 0
IsOutcome I E files form o = IsJudged I E files form o ⊎ IsFaulty I files o

-- 1 if a solution has a fault, else 3 if one has a breach, else 0
abbrev pub status_of_all : Bool → Bool → ℕ
status_of_all has_fault has_breach =
    if has_fault then 1 else (if has_breach then 3 else 0)

-- each has its outcome by what is left of standard input when its turn comes, which only a solution
-- of the path `-` takes from
abbrev pub ReadsEach : Session → Enrolled → (List ℕ → Known) → LineForm → List Outcome
    → (stdin last : Option (List ℕ)) → Type 0
ReadsEach I E files form [] stdin last = last ≡ stdin
ReadsEach I E files form (o ∷ os) stdin last =
    (left : Option (List ℕ)) × IsOutcome I E (source_at stdin files) form o
    × (IsFile o.path → left ≡ stdin) × ReadsEach I E files form os left last

-- each solution has its outcome, in order
pub record AreJudged (I : Session) (E : Enrolled) (files : List ℕ → Known) (form : LineForm)
    (paths : List (List ℕ)) (stdin last : Option (List ℕ)) (outcomes : List Outcome) : Type 0 where
  pub are : map (λ o. o.path) outcomes ≡ paths
  pub each : ReadsEach I E files form outcomes stdin last

-- the text of the session's path is that of a session, and the solutions of these paths have these
-- outcomes by it
pub record AreBySession (path : List ℕ) (files : List ℕ → Known) (form : LineForm)
    (paths : List (List ℕ)) (stdin last : Option (List ℕ)) (outcomes : List Outcome) : Type 0 where
  pub text : List ℕ
  pub of : IsTextOf (source_at stdin files path) text
  pub session : Session
  pub enrolled : Enrolled
  pub read : InstanceText text session enrolled
  pub left : Option (List ℕ)
  pub unread : IsFile path → left ≡ stdin
  pub judged : AreJudged session enrolled files form paths left last outcomes

-- the line of each solution without a fault is printed, and this is the status
pub record PrintsVerdicts (path : List ℕ) (files : List ℕ → Known) (form : LineForm)
    (paths : List (List ℕ)) (stdin last old new : Option (List ℕ)) (status : ℕ) : Type 0 where
  pub outcomes : List Outcome
  pub judged : AreBySession path files form paths stdin last outcomes
  pub printed : Appends old new (flat_map (λ o. o.printed) outcomes)
  pub ended : status ≡ status_of_all (list_any (λ o. o.is_faulty) outcomes)
      (list_any (λ o. o.has_breach) outcomes)

-- the line of a fault was tried to be written, which ended so; nothing was, if there is none
abbrev pub TellsOne : {W : Type 0} → (W → List ℕ → Bool → W → Type 0) → Outcome → W → Bool → W
    → Type 0
TellsOne tells o old is_written new =
    MatchBool o.is_faulty (tells old o.said is_written new) ((is_written ≡ true) × (new ≡ old))

-- the same for the line of each fault, in order; whether all were written
abbrev pub TellsAll : {W : Type 0} → (W → List ℕ → Bool → W → Type 0) → List Outcome → W → Bool → W
    → Type 0
TellsAll tells [] old are_written new = (are_written ≡ true) × (new ≡ old)
TellsAll {W} tells (o ∷ os) old are_written new =
    (mid : W) × (first : Bool) × (others : Bool) × TellsOne tells o old first mid
    × TellsAll tells os mid others new × (are_written ≡ (first && others))

-- and the line of each fault is written, unless its writer failed
pub record JudgesAll {W : Type 0} (tells : W → List ℕ → Bool → W → Type 0) (path : List ℕ)
    (files : List ℕ → Known) (form : LineForm) (paths : List (List ℕ))
    (stdin last old new : Option (List ℕ)) (errors_old errors_new : W) (is_err_written : Bool)
    (status : ℕ) : Type 0 where
  pub prints : PrintsVerdicts path files form paths stdin last old new status
  pub told : TellsAll tells prints.outcomes errors_old is_err_written errors_new

-- ---- one solution after another

-- the line of the verdict on the text of a file
pub record IsLineOf (I : Session) (E : Enrolled) (form : LineForm) (path : List ℕ) (file : Known)
    (line : VerdictLine) : Type 0 where
  pub solution : List ℕ
  pub of : IsTextOf file solution
  pub verdict : Verdict
  pub judged : IsVerdictOn I E solution verdict
  pub text : string_bytes line.text ≡ verdict_line form path verdict
  pub breach : line.has_breach ≡ not (length verdict.breaches.items == 0)

-- the solution of this path has an outcome, which is counted
pub record AddsOutcome {W : Type 0} (tells : W → List ℕ → Bool → W → Type 0) (I : Session)
    (E : Enrolled) (files : List ℕ → Known) (form : LineForm) (path : List ℕ) (before : Found)
    (stdin last old new : Option (List ℕ)) (errors_old errors_new : W) (after : Found)
    : Type 0 where
  pub outcome : Outcome
  pub is : outcome.path ≡ path
  pub of : IsOutcome I E (source_at stdin files) form outcome
  pub unread : IsFile outcome.path → last ≡ stdin
  pub printed : Appends old new outcome.printed
  pub is_written : Bool
  pub told : TellsOne tells outcome errors_old is_written errors_new
  pub said : after.is_err_written ≡ (before.is_err_written && is_written)
  pub fault : after.has_fault ≡ (before.has_fault || outcome.is_faulty)
  pub breach : after.has_breach ≡ (before.has_breach || outcome.has_breach)

-- the solutions of these paths have outcomes, which are counted
pub record HasOutcomes {W : Type 0} (tells : W → List ℕ → Bool → W → Type 0) (I : Session)
    (E : Enrolled) (files : List ℕ → Known) (form : LineForm) (paths : List (List ℕ))
    (stdin last old new : Option (List ℕ)) (errors_old errors_new : W) (found : Found)
    : Type 0 where
  pub outcomes : List Outcome
  pub judged : AreJudged I E files form paths stdin last outcomes
  pub printed : Appends old new (flat_map (λ o. o.printed) outcomes)
  pub told : TellsAll tells outcomes errors_old found.is_err_written errors_new
  pub fault : found.has_fault ≡ list_any (λ o. o.is_faulty) outcomes
  pub breach : found.has_breach ≡ list_any (λ o. o.has_breach) outcomes

-- ---- a line that could not be written

-- of the line of the solution of this path a front was printed
pub record StopsAt (I : Session) (E : Enrolled) (files : List ℕ → Known) (form : LineForm)
    (path : List ℕ) (stdin old new : Option (List ℕ)) : Type 0 where
  pub line : VerdictLine
  pub of : IsLineOf I E form path (source_at stdin files path) line
  pub printed : WritesFront old new (string_bytes line.text)

-- the first of these solutions have outcomes, and of the line of the next one a front was printed
pub record StopsAmong {W : Type 0} (tells : W → List ℕ → Bool → W → Type 0) (I : Session)
    (E : Enrolled) (files : List ℕ → Known) (form : LineForm) (paths : List (List ℕ))
    (stdin old new : Option (List ℕ)) (errors_old errors_new : W) : Type 0 where
  pub before : List (List ℕ)
  pub path : List ℕ
  pub behind : List (List ℕ)
  pub whole : paths ≡ before ++ path ∷ behind
  pub found : Found
  pub left : Option (List ℕ)
  pub printed : Option (List ℕ)
  pub outcomes : HasOutcomes tells I E files form before stdin left old printed errors_old errors_new
      found
  pub stops : StopsAt I E files form path left printed new

-- the same, by the text of the session of this path
pub record StopsAll {W : Type 0} (tells : W → List ℕ → Bool → W → Type 0) (session : List ℕ)
    (files : List ℕ → Known) (form : LineForm) (paths : List (List ℕ))
    (stdin old new : Option (List ℕ)) (errors_old errors_new : W) : Type 0 where
  pub text : List ℕ
  pub of : IsTextOf (source_at stdin files session) text
  pub instance : Session
  pub enrolled : Enrolled
  pub read : InstanceText text instance enrolled
  pub left : Option (List ℕ)
  pub unread : IsFile session → left ≡ stdin
  pub stops : StopsAmong tells instance enrolled files form paths left old new errors_old errors_new
