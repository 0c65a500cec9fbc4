-- The transcript of a run of messages: each message with its reply, in the office that received it.
use Rattle.std.specs.Prelude.{ℕ, List, [], ◌∷◌, All, Option, Some, None, Result, Ok, Err}
use Rattle.office_messages.specs.Reply.{PlainReply}
use Rattle.office_messages.specs.Messages.{Item, asks, fails}
use Rattle.office_messages.specs.Serve.{Serves, AnswersItems}
use Rattle.office_messages.specs.Stream.{PlainRequest}
use Rattle.office_messages.specs.declared.connection.Served.{Served}
use Rattle.office_requests.specs.Requests.{PlainCallerCommand, command_or_refusal}
use Rattle.office_requests.specs.declared.requests.Refusal.{Refusal}
use Rattle.office_model.specs.Office.{OfficeState}
use Rattle.office_model.specs.Runs.{Exchange}
use Rattle.office_http.specs.Replying.{Replies, RepliesTo, RepliesCandidateView}

-- a message with its reply, in the office that received it; the command and its answer are there
-- unless the message is refused unread
pub record Entry : Type 0 where
  pub office : OfficeState
  pub request : PlainRequest
  pub asked : Option Exchange
  pub reply : PlainReply

-- the command and its answer
abbrev pub exchange_in : (said : Result PlainCallerCommand Refusal) (old : OfficeState)
    (reply : PlainReply)
    (new : OfficeState) → RepliesTo said old reply new → Option Exchange
exchange_in (Ok asked) old reply new trace =
    Some (record { caller = asked.caller; command = asked.command; answer = trace.0 })
exchange_in (Err refusal) old reply new trace = None

-- the entry of one message that was replied to
abbrev pub entry : (old : OfficeState) (request : PlainRequest) (reply : PlainReply)
    (new : OfficeState) → Replies old request reply new → Entry
entry old request reply new trace = record {
  office = old;
  request = request;
  asked = exchange_in
      (command_or_refusal request.method request.target request.caller request.body) old reply
      new trace;
  reply = reply;
}

-- the messages of a run in their order, without those that are faulty in head or framing, which no
-- office receives
abbrev pub transcript : (items : List Item) (old : OfficeState) (output : List ℕ)
    (new : OfficeState) → AnswersItems Replies items old output new → List Entry
transcript [] old output new trace = []
transcript (fails fault form ∷ items) old output new (rest, is, trace) =
    transcript items old rest new trace
transcript (asks request ∷ items) old output new (mid, reply, rest, step, is, trace) =
    entry old request reply mid step ∷ transcript items mid rest new trace

-- the messages of a connection
abbrev pub entries : {input before after : Option (List ℕ)} {old new : OfficeState}
    {served : Served} → Serves Replies input before after old new served → List Entry
entries {input} {before} {after} {old} {new} {served} run =
    transcript run.items old run.output new run.trace

-- a message and its reply
abbrev pub request_and_reply : Entry → PlainRequest × PlainReply
request_and_reply e = (e.request, e.reply)

-- if a candidate sent the message, they get the text of their view in the office that received it,
-- or the reply that the office is unavailable
abbrev pub RepliesOwnView : Entry → Type 0
RepliesOwnView e = RepliesCandidateView e.office e.request e.reply

-- a connection is served, and each candidate's message in it gets such a reply
abbrev pub ServesByView : (input before after : Option (List ℕ)) (old new : OfficeState)
    (served : Served) → Type 0
ServesByView input before after old new served =
    (run : Serves Replies input before after old new served) × All RepliesOwnView (entries run)
