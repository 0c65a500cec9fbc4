-- The beginning of a stream without a request at its front: a fault, or less than a whole message.
use Rattle.std.specs.Prelude.{◌≡◌, ℕ, ◌<◌, ◌≤◌, ◌⊎◌, List, length, Ok, Err}
use Rattle.httparse.specs.Grammar.{RequestHead}
use Rattle.httparse.specs.Spans.{RequestOverflows}
use Rattle.office_messages.specs.Framing.{framing}
use Rattle.office_messages.specs.Form.{form_of}
use Rattle.office_messages.specs.Stream.{max_headers, max_head, fields_of, HasHead}
use Rattle.office_messages.specs.HeadEnds.{HasEnd}
use Rattle.office_messages.specs.declared.form.Form.{Form}
use Rattle.office_messages.specs.declared.form.Form.TheVariants.{Full}
use Rattle.office_messages.specs.declared.framing.Fault.{Fault}
use Rattle.office_messages.specs.declared.framing.Fault.TheVariants as faults

-- the stream begins with no such head
abbrev pub LacksHead : List ℕ → Type 0
LacksHead stream = (h : RequestHead) (rest : List ℕ) → ¬ (HasHead stream h rest)

-- the stream has no head within the limit of bytes, or every continuation has too many fields
abbrev pub HeadFault : List ℕ → Type 0
HeadFault stream =
    (0 < length stream)
    × (((max_head ≤ length stream) × LacksHead stream) ⊎ RequestOverflows max_headers stream)

-- the stream begins with a head with this fault of framing
pub record FramingFault (f : Fault) (form : Form) (stream : List ℕ) : Type 0 where
  pub head : RequestHead
  pub after : List ℕ
  pub has_head : HasHead stream head after
  pub framed : framing head.minor (fields_of head) ≡ Err f
  pub form_is : form ≡ form_of head.method

-- the stream begins with this fault, whose reply has that form; a faulty head has no method
abbrev pub FaultAt : Fault → Form → List ℕ → Type 0
FaultAt f form stream =
    ((f ≡ faults.Head) × (form ≡ Full) × HeadFault stream) ⊎ FramingFault f form stream

-- a head whose body isn't complete
pub record BodyCut (stream : List ℕ) : Type 0 where
  pub head : RequestHead
  pub after : List ℕ
  pub has_head : HasHead stream head after
  pub size : ℕ
  pub framed : framing head.minor (fields_of head) ≡ Ok size
  pub short : length after < size

-- less than a whole message: no head, complete or faulty, has ended, or the body hasn't
abbrev pub Unfinished : List ℕ → Type 0
Unfinished stream = ((length stream < max_head) × ¬ (HasEnd stream)) ⊎ BodyCut stream
