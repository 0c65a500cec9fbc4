use Rattle.std.proofs.Common.{subst, Result}
use Rattle.std.specs.Prelude.{IfOk, option_copied}
use Rattle.office_policy.specs.Commands.{PlainCommand, HasSmallNumbers}
use Rattle.office_requests.specs.Methods.{verb_of}
use Rattle.office_requests.specs.declared.requests.Refusal.{Refusal}
use Rattle.office_requests.proofs.RequestLemmas.{refused}
use Rattle.office_requests.proofs.SmallLemmas.{asked_small}
use Rattle.office_requests.proofs.requests.read_request.Goals as goal

pub returns-in-Ok-clause-within : goal.returns-in-Ok-clause-within
returns-in-Ok-clause-within c =
    let request = c.args.request.now in
    subst (λ (r : Result PlainCommand Refusal). IfOk r HasSmallNumbers) c.in-Ok.ensures.command
    (asked_small c.in-Some.caller (verb_of request.method.now) request.target.now request.body.now)

pub returns-in-Err-clause-command : goal.returns-in-Err-clause-command
returns-in-Err-clause-command c =
    let request = c.args.request.now in
    refused (option_copied request.caller) c.in-Some.caller request.method.now request.target.now
    request.body.now c.in-Err.refusal c.in-Some.ensures c.in-Err.ensures.command
