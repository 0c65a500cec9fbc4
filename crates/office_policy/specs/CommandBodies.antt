-- The bodies of commands, without the places of their texts in memory.
use Rattle.std.specs.Prelude.{◌≡◌, ℕ, List}
use Rattle.std.specs.Borrow.{Bor}
use Rattle.office_policy.specs.declared.command.Body.{Body}
use Rattle.office_policy.specs.declared.command.Body.TheVariants.{Given, Bad, Long}
use Rattle.office_policy.specs.declared.command.Command.{Command}
use Rattle.office_policy.specs.declared.command.Command.TheVariants as command

-- a body whose text is a list of bytes
abbrev pub plain_text : Body (Bor (List ℕ)) → Body (List ℕ)
plain_text (Given text) = Given text.now
plain_text Bad = Bad
plain_text Long = Long

-- the value of a body, if it has one, satisfies this
abbrev pub IfBodyHasValue : {A : Type 0} → Body A → (A → Type 0) → Type 0
IfBodyHasValue (Given x) P = P x
IfBodyHasValue Bad P = Unit {0}
IfBodyHasValue Long P = Unit {0}

-- the text of the command, if it has one, is this one in memory
abbrev pub HoldsText : Bor (List ℕ) → Command → Type 0
HoldsText text (command.Load body) = IfBodyHasValue body (λ held. held ≡ text)
HoldsText text (command.NewDraft d body) = IfBodyHasValue body (λ held. held ≡ text)
HoldsText text (command.Batch n body) = IfBodyHasValue body (λ held. held ≡ text)
HoldsText text _ = Unit {0}
