-- The requests that don't concern a candidate: those that don't change their view.
use Rattle.std.specs.Prelude.{◌≡◌, ℕ, Bool, true, false, if◌then◌else◌, List, []}
use Rattle.exam_model.specs.declared.change.Change.{Change}
use Rattle.office_batches.specs.BatchText.{batch_in}
use Rattle.office_policy.specs.Commands.{PlainCommand, batch}
use Rattle.office_policy.specs.declared.command.Body.TheVariants.{Given}
use Rattle.office_model.specs.Answers.{PlainAnswer, now_loaded, now_published, now_enrolled}
use Rattle.office_model.specs.Batches.{changes_to, batch_of_number, lines_if_new}
use Rattle.office_model.specs.Office.{OfficeState}

-- an accepted load, publication or batch, by its answer
abbrev pub is_load : PlainAnswer → Bool
is_load (now_loaded counts) = true
is_load _ = false

-- whether the answer is that a draft was published
abbrev pub is_publication : PlainAnswer → Bool
is_publication (now_published d counts) = true
is_publication _ = false

-- whether the answer is that a batch was accepted
abbrev pub is_batch : PlainAnswer → Bool
is_batch (now_enrolled number counts) = true
is_batch _ = false

-- the changes that a command would newly make: those of a batch whose number isn't kept
abbrev pub command_changes : OfficeState → PlainCommand → List Change
command_changes old (batch number (Given bytes)) = lines_if_new (batch_of_number old number)
    (batch_in bytes)
command_changes old _ = []

-- the changes that a request newly made, if it had this answer
abbrev pub new_changes : OfficeState → PlainCommand → PlainAnswer → List Change
new_changes old command answer = if is_batch answer then command_changes old command else []

-- neither an accepted load nor an accepted publication
pub record KeepsPublication (answer : PlainAnswer) : Type 0 where
  pub no_load : is_load answer ≡ false
  pub no_publication : is_publication answer ≡ false

-- neither of these, nor a newly accepted batch that names the candidate
pub record IsQuiet (s : ℕ) (old : OfficeState) (command : PlainCommand) (answer : PlainAnswer)
    : Type 0 where
  pub keeps : KeepsPublication answer
  pub names_others : changes_to s (new_changes old command answer) ≡ []
