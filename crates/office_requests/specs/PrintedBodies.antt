-- The parts of a command's request besides its path: the value of its body, and its caller.
use Rattle.std.specs.Prelude.{◌≡◌, ℕ, List, Ok}
use Rattle.office_policy.specs.declared.command.Body.TheVariants.{Given}
use Rattle.office_policy.specs.Commands.{PlainCommand, load, set_owner, new_draft, place, move}
use Rattle.office_policy.specs.Commands.{batch}
use Rattle.office_policy.specs.Policy.{permits}
use Rattle.office_policy.specs.declared.callers.Caller.{Caller}
use Rattle.office_policy.specs.declared.callers.Caller.TheVariants.{Cand}
use Rattle.office_requests.specs.Bodies.{text_body, place_body, dept_body}

-- the bytes of a body have the value of the command's body, if it has one
abbrev pub BodyHasValue : List ℕ → PlainCommand → Type 0
BodyHasValue bytes (load text) = Given bytes ≡ text
BodyHasValue bytes (set_owner e dept) = dept_body bytes ≡ dept
BodyHasValue bytes (new_draft d text) = text_body bytes ≡ text
BodyHasValue bytes (place d e at) = place_body bytes ≡ at
BodyHasValue bytes (move d e to) = place_body bytes ≡ to
BodyHasValue bytes (batch n text) = text_body bytes ≡ text
BodyHasValue bytes _ = Unit {0}

-- a candidate asks only for their own pages, all other callers for any command
abbrev pub MaySendCommand : Caller → PlainCommand → Type 0
MaySendCommand (Cand n) c = permits (Cand n) c 0 0 ≡ Ok tt
MaySendCommand _ c = Unit {0}
