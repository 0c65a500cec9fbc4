-- A refusal of a caller's command is one of the request.
use Rattle.std.proofs.Common.{◌≡◌, ℕ, List, Option, Some, Result, Ok, Err, refl, arith}
use Rattle.std.specs.Prelude.{IsOkAnd}
use Rattle.exam_terms.specs.Refusing.{◌>>=◌}
use Rattle.office_policy.specs.declared.callers.Caller.{Caller}
use Rattle.office_policy.specs.Commands.{PlainCommand}
use Rattle.office_requests.specs.Commands.{HasJson}
use Rattle.office_requests.specs.Methods.{verb_of}
use Rattle.office_requests.specs.Requests.{PlainCallerCommand, caller_in, command_by, command_or_refusal}
use Rattle.office_requests.specs.Answering.{ReturnsCommand, ReturnsCallerCommand}
use Rattle.office_requests.specs.declared.requests.Refusal.{Refusal}
use Rattle.office_requests.specs.declared.requests.Refusal.TheVariants as refusal

-- a command with its caller is no refusal
asked_is_ok : (who : Caller) (said : Result PlainCommand Refusal) → IsOkAnd said HasJson →
    IsOkAnd (said >>= (λ c. Ok (record { caller = who; command = c })))
    (λ (a : PlainCallerCommand). HasJson a.command)
asked_is_ok who (Ok c) json = json
asked_is_ok who (Err e) json = absurd json

abbrev with_caller : Caller → Result PlainCommand Refusal → Result PlainCallerCommand Refusal
with_caller who said = said >>= (λ c. Ok (record { caller = who; command = c }))

refused_so : (who : Caller) (said : Result PlainCommand Refusal) (e : Refusal)
    → ReturnsCommand said (Err e) → ReturnsCallerCommand (with_caller who said) (Err e)
refused_so who said refusal.Caller is = rw is refl
refused_so who said refusal.Candidate is = rw is refl
refused_so who said refusal.Path is = rw is refl
refused_so who said (refusal.Method p) is = rw is refl
refused_so who said refusal.NoMemory json = asked_is_ok who said json

pub refused : (value : Option (List ℕ)) (who : Caller) (method path body : List ℕ) (e : Refusal)
    → Some who ≡ caller_in value → ReturnsCommand (command_by who (verb_of method) path body)
    (Err e)
    → ReturnsCallerCommand (command_or_refusal method path value body) (Err e)
refused value who method path body e is gives = grind (arith, refused_so)
