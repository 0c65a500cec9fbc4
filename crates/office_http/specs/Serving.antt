-- A connection to the office, from its first message to its end.
use Rattle.std.specs.Prelude.{ℕ, List, Option, IfSome}
use Rattle.std.specs.Io.KnownBytes.{Appends}
use Rattle.sqlite.specs.Held.{Held, state}
use Rattle.sqlite.specs.Store.{Ghosts}
use Rattle.office_messages.specs.Messages.{Item, Begins}
use Rattle.office_messages.specs.Serve.{WriterFailed, AnswersItems}
use Rattle.office_messages.specs.declared.connection.ServeFault.{ServeFault}
use Rattle.office_messages.specs.declared.connection.ServeFault.TheVariants.{Write}
use Rattle.office_model.specs.Office.{OfficeState}
use Rattle.office_http.specs.Replying.{Replies}
use Rattle.office_store.specs.Running.{CallRan, Represents}

-- the first messages of the stream were answered, with the replies of the office; if the writer
-- failed, all replies but the last were written whole, and the last command is done too
abbrev pub AnswersFront : Option (List ℕ) → Option (List ℕ) → Option (List ℕ) → ServeFault
    → OfficeState → OfficeState → Type 0
AnswersFront input before after Write old new =
    (items : List Item) × (output : List ℕ) × IfSome input (Begins items 0)
    × WriterFailed Replies input before after items output old new
AnswersFront input before after fault old new =
    (items : List Item) × (output : List ℕ) × IfSome input (Begins items 0)
    × AnswersItems Replies items old output new × Appends before after output

-- assuming the disk returns what was written: the file represents an office that serving leads to,
-- for each office that it represented before
abbrev pub LeadsOffice : {S : Type 0} → Ghosts S → (OfficeState → OfficeState → Type 0)
    → Held S → Held S → Type 0
LeadsOffice store LeadsTo old new = CallRan store old new (λ office.
    (next : OfficeState) × LeadsTo office next × Represents (state store new) next)
