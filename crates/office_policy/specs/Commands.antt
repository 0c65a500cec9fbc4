-- Commands, without the places of their texts in memory.
use Rattle.std.specs.Prelude.{ℕ, ◌≤◌, List}
use Rattle.exam_terms.specs.declared.limits.TheConstants.{MAX_DEPARTMENT}
use Rattle.exam_terms.specs.declared.place.Place.{Place}
use Rattle.office_policy.specs.CommandBodies.{plain_text, IfBodyHasValue}
use Rattle.office_policy.specs.Numbers.{IsSmall, IsSmallPlace}
use Rattle.office_policy.specs.declared.command.Body.{Body}
use Rattle.office_policy.specs.declared.command.Command.{Command}
use Rattle.office_policy.specs.declared.command.Command.TheVariants as command

-- a command, whose texts are lists of bytes
pub data PlainCommand : Type 0 where
  me : PlainCommand
  my_exam : ℕ → PlainCommand
  my_penalty : PlainCommand
  load : Body (List ℕ) → PlainCommand
  instance : PlainCommand
  set_owner : ℕ → Body ℕ → PlainCommand
  new_draft : ℕ → Body (List ℕ) → PlainCommand
  draft : ℕ → PlainCommand
  draft_penalty : ℕ → PlainCommand
  draft_violations : ℕ → PlainCommand
  drop_draft : ℕ → PlainCommand
  draft_places : ℕ → ℕ → PlainCommand
  place : ℕ → ℕ → Body Place → PlainCommand
  move : ℕ → ℕ → Body Place → PlainCommand
  clear : ℕ → ℕ → PlainCommand
  swap : ℕ → ℕ → ℕ → PlainCommand
  publish : ℕ → PlainCommand
  publication : PlainCommand
  publication_penalty : PlainCommand
  publication_rooms : PlainCommand
  publication_seats : PlainCommand
  batch : ℕ → Body (List ℕ) → PlainCommand

-- the command that the program holds
abbrev pub plain_command : Command → PlainCommand
plain_command command.Me = me
plain_command (command.MyExam e) = my_exam e
plain_command command.MyPenalty = my_penalty
plain_command (command.Load text) = load (plain_text text)
plain_command command.Instance = instance
plain_command (command.SetOwner e dept) = set_owner e dept
plain_command (command.NewDraft d text) = new_draft d (plain_text text)
plain_command (command.Draft d) = draft d
plain_command (command.DraftPenalty d) = draft_penalty d
plain_command (command.DraftViolations d) = draft_violations d
plain_command (command.DropDraft d) = drop_draft d
plain_command (command.DraftPlaces d e) = draft_places d e
plain_command (command.Place d e at) = place d e at
plain_command (command.Move d e to) = move d e to
plain_command (command.Clear d e) = clear d e
plain_command (command.Swap d a b) = swap d a b
plain_command (command.Publish d) = publish d
plain_command command.Publication = publication
plain_command command.PublicationPenalty = publication_penalty
plain_command command.PublicationRooms = publication_rooms
plain_command command.PublicationSeats = publication_seats
plain_command (command.Batch n text) = batch n (plain_text text)

-- each number of the command is in its limit
abbrev pub HasSmallNumbers : PlainCommand → Type 0
HasSmallNumbers (my_exam e) = IsSmall e
HasSmallNumbers (set_owner e dept) = IsSmall e × IfBodyHasValue dept (λ d. d ≤ MAX_DEPARTMENT)
HasSmallNumbers (new_draft d text) = IsSmall d
HasSmallNumbers (draft d) = IsSmall d
HasSmallNumbers (draft_penalty d) = IsSmall d
HasSmallNumbers (draft_violations d) = IsSmall d
HasSmallNumbers (drop_draft d) = IsSmall d
HasSmallNumbers (draft_places d e) = IsSmall d × IsSmall e
HasSmallNumbers (place d e at) = IsSmall d × IsSmall e × IfBodyHasValue at IsSmallPlace
HasSmallNumbers (move d e to) = IsSmall d × IsSmall e × IfBodyHasValue to IsSmallPlace
HasSmallNumbers (clear d e) = IsSmall d × IsSmall e
HasSmallNumbers (swap d a b) = IsSmall d × IsSmall a × IsSmall b
HasSmallNumbers (publish d) = IsSmall d
HasSmallNumbers (batch n text) = IsSmall n
HasSmallNumbers _ = Unit {0}
