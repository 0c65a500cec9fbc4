-- The messages of a stream, from its first byte to the end of its connection.
use Rattle.std.specs.Prelude.{◌≡◌, ℕ, ◌+◌, ◌<◌, ◌≤◌, ◌⊎◌, true, false, List, [], ◌∷◌, ◌++◌, length}
use Rattle.office_messages.specs.Stream.{PlainRequest, RequestAt}
use Rattle.office_messages.specs.StreamFaults.{FaultAt, Unfinished}
use Rattle.office_messages.specs.HeadEnds.{HasEnd}
use Rattle.office_messages.specs.Stream.{max_head}
use Rattle.office_messages.specs.declared.form.Form.{Form}
use Rattle.office_messages.specs.declared.form.Form.TheVariants.{Full}
use Rattle.office_messages.specs.declared.framing.Fault.{Fault}
use Rattle.office_messages.specs.declared.framing.Fault.TheVariants as faults
use Rattle.office_messages.specs.declared.connection.End.{End}
use Rattle.office_messages.specs.declared.connection.End.TheVariants.{Closed, Cut, Refused, Asked}
use Rattle.office_messages.specs.declared.connection.End.TheVariants.{Limit}

-- an item of a stream: a request, or a fault whose reply has that form
pub data Item : Type 0 where
  asks : PlainRequest → Item
  fails : Fault → Form → Item

-- how many messages a connection is answered at most
abbrev pub max_messages : ℕ
max_messages = 100

-- how a connection ends if no further message is answered
abbrev pub Ends : End → ℕ → List ℕ → Type 0
Ends Closed n stream = (n < max_messages) × (stream ≡ [])
Ends Cut n stream = (n < max_messages) × (0 < length stream) × Unfinished stream
Ends Refused n stream = ⊥
Ends Asked n stream = ⊥
Ends Limit n stream = n ≡ max_messages

-- after n messages the stream has these items, and the connection has this end
abbrev pub Messages : List Item → End → ℕ → List ℕ → Type 0
Messages [] end n stream = Ends end n stream
Messages (fails f form ∷ items) end n stream =
    (n < max_messages) × FaultAt f form stream × (items ≡ []) × (end ≡ Refused)
Messages (asks r ∷ items) end n stream =
    (n < max_messages) × ((rest : List ℕ)
    × ((RequestAt r true stream rest × (items ≡ []) × (end ≡ Asked))
    ⊎ (RequestAt r false stream rest × Messages items end (n + 1) rest)))

-- the stream begins with these requests, of which only the last may end the connection
abbrev pub Begins : List Item → ℕ → List ℕ → Type 0
Begins [] n stream = n ≤ max_messages
Begins (fails f form ∷ items) n stream = ⊥
Begins (asks r ∷ items) n stream =
    (n < max_messages) × ((rest : List ℕ)
    × ((RequestAt r true stream rest × (items ≡ []))
    ⊎ (RequestAt r false stream rest × Begins items (n + 1) rest)))

-- after these requests, none of which ends the connection, the stream continues with rest
abbrev pub ContinuesWith : List Item → List ℕ → List ℕ → Type 0
ContinuesWith [] stream rest = rest ≡ stream
ContinuesWith (fails f form ∷ items) stream rest = ⊥
ContinuesWith (asks r ∷ items) stream rest =
    (next : List ℕ) × RequestAt r false stream next × ContinuesWith items next rest

-- the one choice: if the input ends within a head that no continuation with few enough fields
-- completes, the head is refused, or the connection is cut
pub record Differs (stream : List ℕ) (items : List Item) (end : End) (others : List Item)
    (last : End) : Type 0 where
  pub refused : items ≡ others ++ fails faults.Head Full ∷ []
  pub ends : end ≡ Refused
  pub cut : last ≡ Cut
  pub rest : List ℕ
  pub left : ContinuesWith others stream rest
  pub some : 0 < length rest
  pub short : length rest < max_head
  pub endless : ¬ (HasEnd rest)

-- two readings of a stream are the same except for that choice
abbrev pub Agree : List ℕ → List Item → End → List Item → End → Type 0
Agree stream items end others last =
    ((items ≡ others) × (end ≡ last))
    ⊎ (Differs stream items end others last ⊎ Differs stream others last items end)
