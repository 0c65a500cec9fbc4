-- The statuses of replies: their numbers and phrases (RFC 9110, section 15).
use Rattle.std.specs.Prelude.{ℕ, List, ◌++◌, codes}
use Rattle.http.specs.StatusCode.{code_digits}
use Rattle.office_messages.specs.declared.statuses.Status.{Status}
use Rattle.office_messages.specs.declared.statuses.Status.TheVariants as status

-- the number of a status
abbrev pub code_of : Status → ℕ
code_of status.Done = 200
code_of status.Created = 201
code_of status.BadRequest = 400
code_of status.Forbidden = 403
code_of status.NotFound = 404
code_of status.MethodNotAllowed = 405
code_of status.Conflict = 409
code_of status.PayloadTooLarge = 413
code_of status.NotImplemented = 501
code_of status.ServiceUnavailable = 503

-- the phrase of the status
abbrev pub phrase_of : Status → List ℕ
phrase_of status.Done = codes "OK"
phrase_of status.Created = codes "Created"
phrase_of status.BadRequest = codes "Bad Request"
phrase_of status.Forbidden = codes "Forbidden"
phrase_of status.NotFound = codes "Not Found"
phrase_of status.MethodNotAllowed = codes "Method Not Allowed"
phrase_of status.Conflict = codes "Conflict"
phrase_of status.PayloadTooLarge = codes "Payload Too Large"
phrase_of status.NotImplemented = codes "Not Implemented"
phrase_of status.ServiceUnavailable = codes "Service Unavailable"

-- the first line of a reply
unfoldable pub status_line : Status → List ℕ
status_line s =
    codes "HTTP/1.1 " ++ code_digits (code_of s) ++ codes " " ++ phrase_of s ++ codes "\r\n"
