-- The result of reading a request, and the reply to a refusal.
use Rattle.std.specs.Prelude.{◌≡◌, Some, Result, Ok, Err, IsOkAnd}
use Rattle.office_policy.specs.Commands.{PlainCommand, plain_command}
use Rattle.office_policy.specs.declared.command.Command.{Command}
use Rattle.office_requests.specs.Methods.{allow_of}
use Rattle.office_requests.specs.Commands.{HasJson}
use Rattle.office_policy.specs.declared.policy.Denial.TheVariants.{P1}
use Rattle.office_requests.specs.Texts.{error_text, error_reply}
use Rattle.office_requests.specs.Requests.{PlainCallerCommand, plain_caller_command}
use Rattle.office_requests.specs.declared.routes.Page.{Page}
use Rattle.office_messages.specs.Reply.{PlainReply}
use Rattle.office_messages.specs.FixedReplies.{unavailable}
use Rattle.office_messages.specs.declared.replies.Content.TheVariants.{Json}
use Rattle.office_messages.specs.declared.statuses.Status.TheVariants.{MethodNotAllowed}
use Rattle.office_requests.specs.declared.texts.FixedError.TheVariants as error
use Rattle.office_requests.specs.declared.requests.CallerCommand.{CallerCommand}
use Rattle.office_requests.specs.declared.requests.Refusal.{Refusal}
use Rattle.office_requests.specs.declared.requests.Refusal.TheVariants as refusal

-- The result is that of the definition. Only a command with a body of JSON can fail with out of
-- memory.
abbrev pub AnswersCommand : {A P : Type 0} → (A → P) → (P → PlainCommand) → Result P Refusal
    → Result A Refusal → Type 0
AnswersCommand plain command_in said (Ok asked) = said ≡ Ok (plain asked)
AnswersCommand plain command_in said (Err refusal.NoMemory) =
    IsOkAnd said (λ asked. HasJson (command_in asked))
AnswersCommand plain command_in said (Err refusal.Caller) = said ≡ Err refusal.Caller
AnswersCommand plain command_in said (Err refusal.Candidate) = said ≡ Err refusal.Candidate
AnswersCommand plain command_in said (Err refusal.Path) = said ≡ Err refusal.Path
AnswersCommand plain command_in said (Err (refusal.Method page)) = said ≡ Err (refusal.Method page)

-- the command that is answered
abbrev pub ReturnsCommand : Result PlainCommand Refusal → Result Command Refusal → Type 0
ReturnsCommand said answer = AnswersCommand plain_command (λ command. command) said answer

-- the caller and the command
abbrev pub ReturnsCallerCommand : Result PlainCallerCommand Refusal → Result CallerCommand Refusal
    → Type 0
ReturnsCallerCommand said answer = AnswersCommand plain_caller_command
    (λ asked. asked.command) said answer

-- the reply if the page doesn't have the method
abbrev pub not_allowed : Page → PlainReply
not_allowed page = record {
  status = MethodNotAllowed;
  allow = Some (allow_of page);
  content = Json;
  body = error_text error.Method;
}

-- the reply to a refusal
abbrev pub refusal_reply : Refusal → PlainReply
refusal_reply refusal.Caller = error_reply error.Caller
refusal_reply refusal.Candidate = error_reply (error.Denied P1)
refusal_reply refusal.Path = error_reply error.Path
refusal_reply (refusal.Method page) = not_allowed page
refusal_reply refusal.NoMemory = unavailable
