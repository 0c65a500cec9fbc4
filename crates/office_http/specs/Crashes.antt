-- The messages that a desk answered, and what a later opening finds after a crash.
use Rattle.std.specs.Prelude.{◌≡◌, ◌⊎◌, ℕ, List, [], ◌∷◌, ◌++◌, All, IfErr, IfOk, Ok, Err, Option, Result}
use Rattle.sqlite.specs.Effect.{Database}
use Rattle.office_messages.specs.Messages.{Item, asks, fails}
use Rattle.office_messages.specs.Reply.{PlainReply}
use Rattle.office_messages.specs.Serve.{AnswersItems, Serves, ServesFront}
use Rattle.office_messages.specs.Stream.{PlainRequest}
use Rattle.office_messages.specs.Visits.{ServesVisits, Visit}
use Rattle.office_messages.specs.declared.connection.Served.{Served}
use Rattle.office_messages.specs.declared.connection.ServeFault.{ServeFault}
use Rattle.office_requests.specs.Requests.{PlainCallerCommand, command_or_refusal}
use Rattle.office_requests.specs.declared.requests.Refusal.{Refusal}
use Rattle.office_model.specs.Office.{OfficeState}
use Rattle.office_model.specs.Step.{step}
use Rattle.office_records.specs.Representation.{RepresentsOffice}
use Rattle.office_http.specs.Replying.{IsDone, Replies}

-- a message and its reply
abbrev pub Exchanged : Type 0
Exchanged = PlainRequest × PlainReply

-- ---- the messages of a run

module _ {S : Type 0} (Answers : S → PlainRequest → PlainReply → S → Type 0) where
  -- the messages with their replies, without those that are faulty in head or framing
  abbrev pub exchanges : (items : List Item) (old : S) (output : List ℕ) (new : S)
      → AnswersItems Answers items old output new → List Exchanged
  exchanges [] old output new trace = []
  exchanges (fails fault form ∷ items) old output new (rest, is, trace) =
      exchanges items old rest new trace
  exchanges (asks request ∷ items) old output new (mid, reply, rest, answered, is, trace) =
      (request, reply) ∷ exchanges items mid rest new trace

  -- those of a connection, however it ended
  abbrev pub exchanges_to : (ended : Result Served ServeFault) (input before after : Option (List ℕ))
      (old new : S) → IfOk ended (λ served. Serves Answers input before after old new served)
      → IfErr ended (λ fault. ServesFront Answers input before after old new fault)
      → List Exchanged
  exchanges_to (Ok served) input before after old new run none =
      exchanges run.items old run.output new run.trace
  exchanges_to (Err fault) input before after old new none run =
      exchanges run.items old run.output new run.trace

  -- those of connections, one after another
  abbrev pub all_exchanges : (visits : List Visit) (old new : S)
      → ServesVisits Answers visits old new → List Exchanged
  all_exchanges [] old new run = []
  all_exchanges (v ∷ vs) old new (mid, served, rest) =
      exchanges_to v.ended v.input v.before v.after old mid served.0 served.1
      ++ all_exchanges vs mid new rest

-- ---- offices

-- the office replies so to these messages, one after another, and goes from the first state to the
-- second
abbrev pub RepliesAll : List Exchanged → OfficeState → OfficeState → Type 0
RepliesAll [] old new = new ≡ old
RepliesAll (e ∷ es) old new =
    (mid : OfficeState) × Replies old e.0 e.1 mid × RepliesAll es mid new

-- the message asks for a command, and this is the office after the command's step, whatever the
-- reply says
abbrev pub IsAfterStep : Result PlainCallerCommand Refusal → OfficeState → OfficeState → Type 0
IsAfterStep (Ok asked) old new = new ≡ (step old asked.caller asked.command).0
IsAfterStep (Err refusal) old new = ⊥

-- the message was carried out, whatever the reply says
abbrev pub IsCarriedOut : PlainRequest → OfficeState → OfficeState → Type 0
IsCarriedOut request old new =
    IsAfterStep (command_or_refusal request.method request.target request.caller request.body)
    old new

-- the database represents this office; or, if a message came next, the office in which that one was
-- carried out
abbrev pub IsThereOrNext : List Exchanged → OfficeState → Database → Type 0
IsThereOrNext [] office db = RepresentsOffice db office
IsThereOrNext (e ∷ more) office db =
    RepresentsOffice db office
    ⊎ ((next : OfficeState) × IsCarriedOut e.0 office next × RepresentsOffice db next)

-- the database represents the office after a front of these messages, which has each message that
-- was done: answered 200 or 201; the first message behind it may have been carried out too
pub record IsAfterFront (all : List Exchanged) (start : OfficeState) (db : Database) : Type 0 where
  pub front : List Exchanged
  pub others : List Exchanged
  pub whole : all ≡ front ++ others
  pub undone : All (λ (e : Exchanged). IsDone e.1.status → ⊥) others
  pub office : OfficeState
  pub leads : RepliesAll front start office
  pub found : IsThereOrNext others office db
