-- The refusals with fixed texts, byte for byte.
use Rattle.std.specs.Prelude.{ℕ, List, ◌++◌, codes}
use Rattle.office_policy.specs.declared.policy.Denial.{Denial}
use Rattle.office_policy.specs.declared.policy.Denial.TheVariants.{P1, P2, P3, P4}
use Rattle.office_messages.specs.Reply.{PlainReply, json_reply}
use Rattle.office_messages.specs.declared.statuses.Status.{Status}
use Rattle.office_messages.specs.declared.statuses.Status.TheVariants as status
use Rattle.office_requests.specs.declared.texts.FixedError.{FixedError}
use Rattle.office_requests.specs.declared.texts.FixedError.TheVariants as error

-- the status of an error
abbrev pub status_of : FixedError → Status
status_of error.Caller = status.BadRequest
status_of error.Body = status.BadRequest
status_of (error.Denied rule) = status.Forbidden
status_of error.Path = status.NotFound
status_of error.Exam = status.NotFound
status_of error.Draft = status.NotFound
status_of error.Number = status.NotFound
status_of error.Publication = status.NotFound
status_of error.Method = status.MethodNotAllowed
status_of error.Loaded = status.Conflict
status_of error.NotLoaded = status.Conflict
status_of error.DraftTaken = status.Conflict
status_of error.BatchDiffers = status.Conflict
status_of error.TooMany = status.Conflict
status_of error.AlreadyPlaced = status.Conflict
status_of error.NotPlaced = status.Conflict
status_of error.SameExam = status.Conflict

-- the name of a denial
abbrev pub rule_text : Denial → List ℕ
rule_text P1 = codes "P1"
rule_text P2 = codes "P2"
rule_text P3 = codes "P3"
rule_text P4 = codes "P4"

-- the body of the reply
abbrev pub error_text : FixedError → List ℕ
error_text error.Caller = codes "{\"error\":\"caller\"}"
error_text error.Body = codes "{\"error\":\"body\"}"
error_text (error.Denied rule) =
    codes "{\"error\":\"forbidden\",\"rule\":\"" ++ rule_text rule ++ codes "\"}"
error_text error.Path = codes "{\"error\":\"path\"}"
error_text error.Exam = codes "{\"error\":\"exam\"}"
error_text error.Draft = codes "{\"error\":\"draft\"}"
error_text error.Number = codes "{\"error\":\"number\"}"
error_text error.Publication = codes "{\"error\":\"publication\"}"
error_text error.Method = codes "{\"error\":\"method\"}"
error_text error.Loaded = codes "{\"error\":\"loaded\"}"
error_text error.NotLoaded = codes "{\"error\":\"not-loaded\"}"
error_text error.DraftTaken = codes "{\"error\":\"draft-taken\"}"
error_text error.BatchDiffers = codes "{\"error\":\"batch-differs\"}"
error_text error.TooMany = codes "{\"error\":\"too-many\"}"
error_text error.AlreadyPlaced = codes "{\"error\":\"already-placed\"}"
error_text error.NotPlaced = codes "{\"error\":\"not-placed\"}"
error_text error.SameExam = codes "{\"error\":\"same-exam\"}"

-- its reply: the status, and the text as JSON
abbrev pub error_reply : FixedError → PlainReply
error_reply e = json_reply (status_of e) (error_text e)
