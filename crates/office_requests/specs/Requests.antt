-- The command of a request, or its refusal without reading anything stored.
use Rattle.std.specs.Prelude.{ℕ, List, [], Option, Some, None, option_and_then}
use Rattle.std.specs.Prelude.{Result, Ok, Err}
use Rattle.exam_terms.specs.Refusing.{◌>>=◌, else_err}
use Rattle.exam_terms.specs.Texts.{trimmed_text}
use Rattle.office_policy.specs.Callers.{caller_of}
use Rattle.office_policy.specs.declared.callers.Caller.{Caller}
use Rattle.office_policy.specs.declared.callers.Caller.TheVariants.{Cand}
use Rattle.office_policy.specs.Commands.{PlainCommand, plain_command}
use Rattle.office_policy.specs.Policy.{kind_of}
use Rattle.office_policy.specs.declared.policy.Kind.{Kind}
use Rattle.office_policy.specs.declared.policy.Kind.TheVariants.{Personal}
use Rattle.office_requests.specs.Pages.{page_of}
use Rattle.office_requests.specs.Methods.{verb_of}
use Rattle.office_requests.specs.Commands.{command_at}
use Rattle.office_requests.specs.declared.methods.Verb.{Verb}
use Rattle.office_requests.specs.declared.requests.CallerCommand.{CallerCommand}
use Rattle.office_requests.specs.declared.requests.Refusal.{Refusal}
use Rattle.office_requests.specs.declared.requests.Refusal.TheVariants as refusal

-- the caller that the header names, if it is there exactly once
abbrev pub caller_in : Option (List ℕ) → Option Caller
caller_in value = option_and_then (λ v. caller_of (trimmed_text v)) value

-- the office and departments ask for a command of a page
abbrev pub staff_command : Verb → List ℕ → List ℕ → Result PlainCommand Refusal
staff_command verb path body =
    else_err refusal.Path (page_of path) >>= (λ p. command_at p verb path body)

-- the command, if its kind is that of a candidate's own pages
abbrev pub if_personal : Kind → PlainCommand → Option PlainCommand
if_personal Personal c = Some c
if_personal kind c = None

-- the same, if there is one
abbrev pub personal_in : Result PlainCommand Refusal → Option PlainCommand
personal_in (Ok c) = if_personal (kind_of c) c
personal_in (Err e) = None

-- one of the candidate's own pages; a body is not read
abbrev pub own_command : Verb → List ℕ → Option PlainCommand
own_command verb path = personal_in (staff_command verb path [])

-- a candidate asks for one of their pages, or is refused
abbrev pub candidate_command : Verb → List ℕ → Result PlainCommand Refusal
candidate_command verb path = else_err refusal.Candidate (own_command verb path)

-- the command of that caller
abbrev pub command_by : Caller → Verb → List ℕ → List ℕ → Result PlainCommand Refusal
command_by (Cand c) verb path body = candidate_command verb path
command_by caller verb path body = staff_command verb path body

-- the caller and the command, without the place of a text in memory
pub record PlainCallerCommand : Type 0 where
  pub caller : Caller
  pub command : PlainCommand

-- a request as read, without the place of a text in memory
abbrev pub plain_caller_command : CallerCommand → PlainCallerCommand
plain_caller_command asked = record { caller = asked.caller; command = plain_command asked.command }

-- the caller and the command: the caller is judged first
abbrev pub command_or_refusal : List ℕ → List ℕ → Option (List ℕ) → List ℕ
    → Result PlainCallerCommand Refusal
command_or_refusal method path value body =
    else_err refusal.Caller (caller_in value) >>= (λ who.
    command_by who (verb_of method) path body >>= (λ asked.
    Ok (record { caller = who; command = asked })))
