-- The effect of a command on the office that the desk's file represents, and its answer.
use Rattle.std.specs.Prelude.{◌≡◌, ◌⊎◌, IsTrue, Result, Ok, Err}
use Rattle.sqlite.specs.Effect.{IsDatabase}
use Rattle.sqlite.specs.Held.{Held, state}
use Rattle.sqlite.specs.State.{HasCleanDisk, State, Survives}
use Rattle.sqlite.specs.Store.{Ghosts}
use Rattle.sqlite_trees.specs.Tree.{Trees}
use Rattle.office_tables.specs.Alterations.{found_in}
use Rattle.office_policy.specs.Commands.{PlainCommand, load, set_owner, new_draft, drop_draft}
use Rattle.office_policy.specs.Commands.{place, move, clear, swap, publish, batch}
use Rattle.office_policy.specs.declared.callers.Caller.{Caller}
use Rattle.office_policy.specs.declared.command.Body.{Body}
use Rattle.office_policy.specs.declared.command.Body.TheVariants.{Given, Bad, Long}
use Rattle.office_model.specs.Answers.{PlainAnswer, bad_body, long_body, unavailable}
use Rattle.office_model.specs.Office.{OfficeState}
use Rattle.office_model.specs.Step.{Outcome, Steps, permitted_outcome, step}
use Rattle.office_records.specs.Representation.{RepresentsOffice}
use Rattle.office_store.specs.Running.{IsCommitted, Represents, StateUnchanged}
use Rattle.office_desk.specs.Answers.{IsRefusal, plain_answer}
use Rattle.office_desk.specs.declared.answer.Answer.{Answer}

-- the answer, whether something was done or not
abbrev pub answer_of : Result Answer Answer → PlainAnswer
answer_of (Ok answer) = plain_answer answer
answer_of (Err answer) = plain_answer answer

-- the answer is the outcome's, and the office the next; or `unavailable`, and the office is
-- unchanged
abbrev pub AnswersOutcome : Outcome → OfficeState → (OfficeState → Type 0) → PlainAnswer → Type 0
AnswersOutcome outcome old Stays answer =
    ((answer ≡ outcome.1) × Stays outcome.0) ⊎ ((answer ≡ unavailable) × Stays old)

-- ---- what a command may write

-- a command that may change the office; all others only show it
abbrev pub MayChange : PlainCommand → Type 0
MayChange (load body) = Unit {0}
MayChange (set_owner exam body) = Unit {0}
MayChange (new_draft d body) = Unit {0}
MayChange (drop_draft d) = Unit {0}
MayChange (place d exam body) = Unit {0}
MayChange (move d exam body) = Unit {0}
MayChange (clear d exam) = Unit {0}
MayChange (swap d a b) = Unit {0}
MayChange (publish d) = Unit {0}
MayChange (batch number body) = Unit {0}
MayChange command = ⊥

-- the trees hold the office after the outcome of each one in the open file; they list the office's
-- schema and obey it, so they can be opened
pub record HoldsOutcome (outcome_in : OfficeState → Outcome) (old : State) (found : Trees)
    : Type 0 where
  pub was_open : IsTrue old.is_open
  pub sound : IsDatabase (found_in found)
  pub office : OfficeState
  pub stood : RepresentsOffice old.now office
  pub holds : (there : OfficeState) → RepresentsOffice old.now there
      → RepresentsOffice (found_in found) (outcome_in there).0

-- what a command may commit that may change the office and isn't refused, unless the office became
-- unavailable: the office after its outcome
abbrev pub MayCommitOutcome : Type 0 → (OfficeState → Outcome) → State → PlainAnswer → Trees
    → Type 0
MayCommitOutcome Changes outcome_in old answer found =
    Changes × (IsRefusal answer → answer ≡ unavailable) × HoldsOutcome outcome_in old found

-- assuming the disk returns what was written, this is the outcome; if it isn't a refusal, the
-- database is open, and all writes are committed; a command that changes nothing leaves every row as
-- it was, and commits nothing
pub record OutcomeAnswered {S : Type 0} (store : Ghosts S) (Changes : Type 0)
    (outcome_in : OfficeState → Outcome) (old new : Held S) (result : Result Answer Answer)
    : Type 0 where
  pub answers : HasCleanDisk (state store new) → (office : OfficeState)
      → Represents (state store old) office
      → AnswersOutcome (outcome_in office) office (Represents (state store new)) (answer_of result)
  pub all_committed : HasCleanDisk (state store new)
      → IsRefusal (answer_of result) ⊎ IsCommitted (state store new)
  pub clean : HasCleanDisk (state store new) → HasCleanDisk (state store old)
  pub unchanged : (Changes → ⊥) → HasCleanDisk (state store new)
      → StateUnchanged (state store old) (state store new)
  pub survives : Survives (state store old) (state store new)
      (MayCommitOutcome Changes outcome_in (state store old) (answer_of result))

-- the command was performed as a permitted one of this caller
abbrev pub CommandPerformed : {S : Type 0} → Ghosts S → Caller → PlainCommand → Held S → Held S
    → Result Answer Answer → Type 0
CommandPerformed store caller command old new result =
    OutcomeAnswered store (MayChange command)
    (λ office. permitted_outcome office caller command) old new result

-- what a later opening may find after a command that may change the office and isn't refused, beside
-- what it might have found before: the office after the command's step
abbrev pub MayCommitStep : Caller → PlainCommand → State → PlainAnswer → Trees → Type 0
MayCommitStep caller command old answer found =
    MayCommitOutcome (MayChange command) (λ office. step office caller command) old answer found

-- assuming the disk returns what was written, a command is one step of the office that the file
-- represents; if it isn't refused, the database is open, and all writes are committed; if it only
-- shows the office, every row is as it was, and nothing is committed
pub record CommandAnswered {S : Type 0} (store : Ghosts S) (caller : Caller) (command : PlainCommand)
    (old new : Held S) (final_answer : PlainAnswer) : Type 0 where
  pub clean : HasCleanDisk (state store new) → HasCleanDisk (state store old)
  pub step : HasCleanDisk (state store new) → (office : OfficeState)
      → Represents (state store old) office
      → (next : OfficeState) × Steps office caller command final_answer next
      × Represents (state store new) next
  pub all_committed : HasCleanDisk (state store new)
      → IsRefusal final_answer ⊎ IsCommitted (state store new)
  pub unchanged : (MayChange command → ⊥) → HasCleanDisk (state store new)
      → StateUnchanged (state store old) (state store new)
  pub survives : Survives (state store old) (state store new)
      (MayCommitStep caller command (state store old) final_answer)

-- `Ok` is the value of the body; `Err` is the answer to a faulty or too long body
abbrev pub IsBodyOrAnswer : {A : Type 0} → Body A → Result A Answer → Type 0
IsBodyOrAnswer body (Ok x) = body ≡ Given x
IsBodyOrAnswer body (Err answer) =
    ((body ≡ Bad) × (plain_answer answer ≡ bad_body))
    ⊎ ((body ≡ Long) × (plain_answer answer ≡ long_body))
