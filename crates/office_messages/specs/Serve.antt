-- The text written over one connection.
use Rattle.std.specs.Prelude.{◌≡◌, ◌≢◌, ℕ, ◌⊎◌, List, [], ◌∷◌, ◌++◌, length, Option, IfSome}
use Rattle.std.specs.Io.KnownBytes.{Appends}
use Rattle.office_messages.specs.Form.{form_of}
use Rattle.office_messages.specs.Reply.{PlainReply, reply_text}
use Rattle.office_messages.specs.FixedReplies.{fault_reply}
use Rattle.office_messages.specs.Stream.{PlainRequest}
use Rattle.office_messages.specs.Messages.{Item, asks, fails, Messages, Begins}
use Rattle.office_messages.specs.declared.connection.End.TheVariants.{Refused}
use Rattle.office_messages.specs.declared.connection.Served.{Served}
use Rattle.office_messages.specs.declared.connection.ServeFault.{ServeFault}
use Rattle.office_messages.specs.declared.connection.ServeFault.TheVariants as serve_faults

module _ {S : Type 0} (Answers : S → PlainRequest → PlainReply → S → Type 0) where
  -- from old the machine may answer these, with that output, and go on to new
  abbrev pub AnswersItems : List Item → S → List ℕ → S → Type 0
  AnswersItems [] old output new = (output ≡ []) × (new ≡ old)
  AnswersItems (fails f form ∷ items) old output new =
      (rest : List ℕ) × (output ≡ reply_text form (fault_reply f) ++ rest)
      × AnswersItems items old rest new
  AnswersItems (asks r ∷ items) old output new =
      (mid : S) × (reply : PlainReply) × (rest : List ℕ) × Answers old r reply mid
      × (output ≡ reply_text (form_of r.method) reply ++ rest) × AnswersItems items mid rest new

  -- a connection was served to its end
  pub record Serves (input before after : Option (List ℕ)) (old new : S)
      (served : Served) : Type 0 where
    pub items : List Item
    pub output : List ℕ
    pub messages : IfSome input (Messages items served.end 0)
    pub trace : AnswersItems items old output new
    pub count : length items ≡ served.answered
    pub written : Appends before after output

  -- the writer failed: all replies but the last were written whole, and a front of the last, which
  -- is to the last of the items, or to the fault of head or framing after them
  pub record WriterFailed (input before after : Option (List ℕ)) (items : List Item)
      (output : List ℕ) (old new : S) : Type 0 where
    pub whole : List Item
    pub front : List ℕ
    pub mid : S
    pub trace : AnswersItems whole old front mid
    pub last : Item
    pub sent : List ℕ
    pub unsent : List ℕ
    pub last_trace : AnswersItems (last ∷ []) mid (sent ++ unsent) new
    pub next : ((items ≡ whole ++ last ∷ []) × (output ≡ front ++ (sent ++ unsent)))
        ⊎ ((items ≡ whole) × (output ≡ front)
        × IfSome input (Messages (whole ++ last ∷ []) Refused 0))
    pub written : Appends before after (front ++ sent)

  -- a front of the stream was served: the machine answered these items, and that output was to be
  -- written
  pub record ServesFront (input before after : Option (List ℕ)) (old new : S)
      (fault : ServeFault) : Type 0 where
    pub items : List Item
    pub output : List ℕ
    pub begins : IfSome input (Begins items 0)
    pub trace : AnswersItems items old output new
    pub written : fault ≢ serve_faults.Write → Appends before after output
    pub broken : fault ≡ serve_faults.Write → WriterFailed input before after items output old new
