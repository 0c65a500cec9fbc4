-- The values of the fields of a head, from the list of its names and values.
use Rattle.std.specs.Prelude.{ℕ, List, [], ◌∷◌, Bool, ◌&&◌, if◌then◌else◌, flat_map, codes}
use Rattle.office_messages.specs.Names.{same_name, lists}

-- a name and a value
abbrev pub Header : Type 0
Header = List ℕ × List ℕ

-- the value, if the name is this one in any ASCII case
abbrev pub value_if_named : List ℕ → Header → List (List ℕ)
value_if_named name h = if same_name h.0 name then h.1 ∷ [] else []

-- the value of every field with this name, in order
abbrev pub values_named : List ℕ → List Header → List (List ℕ)
values_named name headers = flat_map (value_if_named name) headers

-- the field is Connection, and `close` is among its names
abbrev pub asks_to_close : Header → Bool
asks_to_close h = same_name h.0 (codes "connection") && lists (codes "close") h.1
