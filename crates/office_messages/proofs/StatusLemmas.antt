-- HTTP's phrases are the stated ones.
use Rattle.std.proofs.Common.{◌≡◌, ◌≤◌, length, Some, refl, arith}
use Rattle.http.specs.StatusCode.{reason_phrase}
use Rattle.office_messages.specs.Statuses.{code_of, phrase_of}
use Rattle.office_messages.specs.declared.statuses.Status.{Status}
use Rattle.office_messages.specs.declared.statuses.Status.TheVariants as status

pub reason_of : (s : Status) → reason_phrase (code_of s) ≡ Some (phrase_of s)
reason_of status.Done = refl
reason_of status.Created = refl
reason_of status.BadRequest = refl
reason_of status.Forbidden = refl
reason_of status.NotFound = refl
reason_of status.MethodNotAllowed = refl
reason_of status.Conflict = refl
reason_of status.PayloadTooLarge = refl
reason_of status.NotImplemented = refl
reason_of status.ServiceUnavailable = refl

pub phrase_short : (s : Status) → length (phrase_of s) ≤ 19
phrase_short status.Done = omega arith
phrase_short status.Created = omega arith
phrase_short status.BadRequest = omega arith
phrase_short status.Forbidden = omega arith
phrase_short status.NotFound = omega arith
phrase_short status.MethodNotAllowed = omega arith
phrase_short status.Conflict = omega arith
phrase_short status.PayloadTooLarge = omega arith
phrase_short status.NotImplemented = omega arith
phrase_short status.ServiceUnavailable = omega arith

pub ruleset status_facts = (reason_of, phrase_short)
