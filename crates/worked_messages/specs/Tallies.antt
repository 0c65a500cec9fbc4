-- The answers of a tally.
use Rattle.std.specs.Prelude.{◌≡◌, ◌+◌, min, codes}
use Rattle.office_messages.specs.Reply.{PlainReply, json_reply}
use Rattle.office_messages.specs.Stream.{PlainRequest}
use Rattle.office_messages.specs.declared.statuses.Status.TheVariants.{Done}
use Rattle.worked_messages.specs.declared.tally.Tally.{Tally}

-- each request is counted, up to 4,294,967,295, and gets the same reply
abbrev pub Tallies : Tally → PlainRequest → PlainReply → Tally → Type 0
Tallies old request reply new =
    (new.answered ≡ min (old.answered + 1) 4294967295) × (reply ≡ json_reply Done (codes "{}"))
