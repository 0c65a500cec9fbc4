-- The end of a message's body, and the faults of the fields that determine it, in their order.
use Rattle.std.specs.Prelude.{ℕ, ◌&&◌, ◌==◌, not, List, [], ◌∷◌, length, Result, Ok, Err}
use Rattle.std.specs.Prelude.{if◌then◌else◌, nat_lt, nat_le, codes}
use Rattle.std.specs.List.{list_all}
use Rattle.std.specs.Char.{is_ascii_digit}
use Rattle.std.specs.Str.Parse.{digits_value}
use Rattle.office_messages.specs.Fields.{Header, values_named}
use Rattle.office_messages.specs.declared.framing.Fault.{Fault}
use Rattle.office_messages.specs.declared.framing.Fault.TheVariants.{Host, Transfer, Length}
use Rattle.office_messages.specs.declared.framing.Fault.TheVariants.{TooLong}

-- the longest body
abbrev pub max_body : ℕ
max_body = 4194304

-- the value of a text of digits, if it is within the limit
abbrev pub length_of : List ℕ → Result ℕ Fault
length_of [] = Err Length
length_of (b ∷ bs) =
    if list_all is_ascii_digit (b ∷ bs)
    then (if nat_le (digits_value 10 (b ∷ bs)) max_body
    then Ok (digits_value 10 (b ∷ bs)) else Err TooLong)
    else Err Length

-- by the values of Content-Length
abbrev pub body_length : List (List ℕ) → Result ℕ Fault
body_length [] = Ok 0
body_length (v ∷ []) = length_of v
body_length (v ∷ w ∷ vs) = Err Length

-- the body's length, or the first fault of the head's fields
unfoldable pub framing : ℕ → List Header → Result ℕ Fault
framing minor headers =
    if (minor == 1) && not (length (values_named (codes "host") headers) == 1) then Err Host
    else (if nat_lt 0 (length (values_named (codes "transfer-encoding") headers)) then Err Transfer
    else body_length (values_named (codes "content-length") headers))
