-- The end of a head.
use Rattle.std.specs.Prelude.{◌≡◌, ℕ, ◌-◌, ◌≤◌, Bool, true, false, not, ◌&&◌}
use Rattle.std.specs.Prelude.{List, [], ◌∷◌, length, take, Option, Some, None}
use Rattle.std.specs.Prelude.{if◌then◌else◌, nat_eq, nat_lt, option_and_then}
use Rattle.std.specs.List.{ends_with}
use Rattle.std.specs.Option.{option_map_or}
use Rattle.httparse.specs.Ascii.{line_feed, crlf_bytes}
use Rattle.office_messages.specs.Stream.{max_head}

-- the bytes before the line end that they end with
abbrev pub before_end : List ℕ → Option (List ℕ)
before_end bytes =
    if ends_with nat_eq bytes crlf_bytes then Some (take (length bytes - 2) bytes)
    else (if ends_with nat_eq bytes (line_feed ∷ [])
    then Some (take (length bytes - 1) bytes) else None)

-- the bytes end within a line that isn't empty
abbrev pub ends_in_line : List ℕ → Bool
ends_in_line bytes = nat_lt 0 (length bytes) && not (ends_with nat_eq bytes (line_feed ∷ []))

-- they end with a line that isn't empty, and an empty one, as a head does
unfoldable pub ends_as_head : List ℕ → Bool
ends_as_head bytes =
    option_map_or ends_in_line (option_and_then before_end (before_end bytes)) false

-- an empty line follows a line that isn't empty, within the first 16,384 bytes of the stream: a
-- head, complete or faulty, ends there
pub record HasEnd (stream : List ℕ) : Type 0 where
  pub size : ℕ
  pub within : size ≤ length stream
  pub fits : size ≤ max_head
  pub ends : ends_as_head (take size stream) ≡ true
