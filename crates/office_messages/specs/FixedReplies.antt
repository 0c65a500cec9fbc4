-- Replies that are always the same.
use Rattle.std.specs.Prelude.{codes}
use Rattle.office_messages.specs.declared.framing.Fault.{Fault}
use Rattle.office_messages.specs.declared.framing.Fault.TheVariants as faults
use Rattle.office_messages.specs.declared.statuses.Status.TheVariants as status
use Rattle.office_messages.specs.Reply.{PlainReply, json_reply}

-- the reply to a fault
abbrev pub fault_reply : Fault → PlainReply
fault_reply faults.Head = json_reply status.BadRequest (codes "{\"error\":\"request\"}")
fault_reply faults.Host = json_reply status.BadRequest (codes "{\"error\":\"request\"}")
fault_reply faults.Transfer = json_reply status.NotImplemented (codes "{\"error\":\"transfer\"}")
fault_reply faults.Length = json_reply status.BadRequest (codes "{\"error\":\"request\"}")
fault_reply faults.TooLong = json_reply status.PayloadTooLarge (codes "{\"error\":\"length\"}")

-- the reply if the store or memory is unavailable
abbrev pub unavailable : PlainReply
unavailable = json_reply status.ServiceUnavailable (codes "{\"error\":\"unavailable\"}")
