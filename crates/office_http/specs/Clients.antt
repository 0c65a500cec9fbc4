-- The office serves many clients, one after another.
use Rattle.std.specs.Prelude.{◌≡◌, ℕ, List, [], ◌∷◌, ◌++◌, All, Option, Result, Ok, Err}
use Rattle.office_messages.specs.Serve.{Serves}
use Rattle.office_messages.specs.Visits.{Visit}
use Rattle.office_messages.specs.declared.connection.Served.{Served}
use Rattle.office_messages.specs.declared.connection.ServeFault.{ServeFault}
use Rattle.office_messages.specs.declared.connection.ServeFault.TheVariants.{Read, Write, TooMany, NoMemory}
use Rattle.office_model.specs.Office.{OfficeState}
use Rattle.office_http.specs.Replying.{Replies}
use Rattle.office_http.specs.Serving.{AnswersFront}
use Rattle.office_http.specs.Transcripts.{Entry, RepliesOwnView, entries, transcript}

-- the office served a connection, to its end or up to its fault
abbrev pub ServesTo : Result Served ServeFault → (input before after : Option (List ℕ))
    → OfficeState → OfficeState → Type 0
ServesTo (Ok served) input before after old new =
    Serves Replies input before after old new served
ServesTo (Err fault) input before after old new = AnswersFront input before after fault old new

-- the office served these connections, one after another
abbrev pub ServesAll : List Visit → OfficeState → OfficeState → Type 0
ServesAll [] old new = new ≡ old
ServesAll (v ∷ vs) old new =
    (mid : OfficeState) × ServesTo v.ended v.input v.before v.after old mid × ServesAll vs mid new

-- the messages of a connection that ended with this fault
abbrev pub front_entries : (fault : ServeFault) (input before after : Option (List ℕ))
    (old new : OfficeState) → AnswersFront input before after fault old new → List Entry
front_entries Read input before after old new (items, output, begins, trace, written) =
    transcript items old output new trace
front_entries Write input before after old new (items, output, begins, x) =
    transcript x.whole old x.front x.mid x.trace
    ++ transcript (x.last ∷ []) x.mid (x.sent ++ x.unsent) new x.last_trace
front_entries TooMany input before after old new (items, output, begins, trace, written) =
    transcript items old output new trace
front_entries NoMemory input before after old new (items, output, begins, trace, written) =
    transcript items old output new trace

-- the messages of a connection, however it ended
abbrev pub entries_to : (ended : Result Served ServeFault) (input before after : Option (List ℕ))
    (old new : OfficeState) → ServesTo ended input before after old new → List Entry
entries_to (Ok served) input before after old new run = entries run
entries_to (Err fault) input before after old new run =
    front_entries fault input before after old new run

-- the messages of connections one after another
abbrev pub all_entries : (visits : List Visit) (old new : OfficeState)
    → ServesAll visits old new → List Entry
all_entries [] old new run = []
all_entries (v ∷ vs) old new (mid, served, rest) =
    entries_to v.ended v.input v.before v.after old mid served ++ all_entries vs mid new rest

-- the office served these connections, and each candidate got the text of their view in the office
-- that received the message, or the reply that the office is unavailable
abbrev pub ServesAllByView : List Visit → OfficeState → OfficeState → Type 0
ServesAllByView visits old new =
    (run : ServesAll visits old new) × All RepliesOwnView (all_entries visits old new run)
