-- Names, and lists of names between commas.
use Rattle.std.specs.Prelude.{ℕ, Bool, List, [], ◌∷◌, map, Option, Some, None, if◌then◌else◌, ◌==◌}
use Rattle.std.specs.Prelude.{bytes_eq}
use Rattle.std.specs.List.{list_any, onto_first}
use Rattle.std.specs.Char.{to_ascii_lowercase}
use Rattle.std.specs.Borrow.{Bor}
use Rattle.httparse.specs.Ascii.{comma}
use Rattle.httparse.specs.Grammar.{trim_ows}
use Rattle.office_messages.specs.declared.names.Names.{Names}

-- two names are one, in any ASCII case
unfoldable pub same_name : List ℕ → List ℕ → Bool
same_name a b = bytes_eq (map to_ascii_lowercase a) (map to_ascii_lowercase b)

-- the pieces between commas
abbrev pub pieces_of : List ℕ → List (List ℕ)
pieces_of [] = [] ∷ []
pieces_of (b ∷ bs) =
    let pieces = pieces_of bs in
    if b == comma then [] ∷ pieces else onto_first b pieces

-- the pieces without the blanks around each (RFC 9110, section 5.6.1)
unfoldable pub names_of : List ℕ → List (List ℕ)
names_of value = map trim_ows (pieces_of value)

-- the name is among those of the list, in any ASCII case
abbrev pub lists : List ℕ → List ℕ → Bool
lists name value = list_any (λ listed. same_name listed name) (names_of value)

-- the names in the rest, if there is one
abbrev pub names_of_rest : Option (Bor (List ℕ)) → List (List ℕ)
names_of_rest None = []
names_of_rest (Some rest) = names_of rest.now

-- the names that are not read yet
abbrev pub names_left : Names → List (List ℕ)
names_left names = names_of_rest names.rest
