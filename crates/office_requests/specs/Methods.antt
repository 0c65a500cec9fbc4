-- Methods, and those of each page.
use Rattle.std.specs.Prelude.{ℕ, Bool, ◌==◌, List, [], ◌∷◌, codes, bytes_eq, if◌then◌else◌}
use Rattle.std.specs.Prelude.{filter, is_some}
use Rattle.std.specs.List.{list_any, onto_first, join_by}
use Rattle.office_requests.specs.Commands.{command_of}
use Rattle.office_requests.specs.declared.methods.Verb.{Verb}
use Rattle.office_requests.specs.declared.methods.Verb.TheVariants.{Get, Put, Post, Delete, Other}
use Rattle.office_requests.specs.declared.routes.Page.{Page}

-- a method by its name, in this case
abbrev pub verb_of : List ℕ → Verb
verb_of name =
    if bytes_eq name (codes "GET") then Get
    else (if bytes_eq name (codes "PUT") then Put
    else (if bytes_eq name (codes "POST") then Post
    else (if bytes_eq name (codes "DELETE") then Delete else Other)))

-- the page has a command with the method
abbrev pub has_method : Page → List ℕ → Bool
has_method p name = is_some (command_of (verb_of name) p (0, 0, 0) [])

-- the methods of a page, in the order GET, PUT, POST, DELETE
abbrev pub allow_of : Page → List ℕ
allow_of p =
    join_by (λ name. name) (codes ", ")
    (filter (has_method p) (codes "GET" ∷ codes "PUT" ∷ codes "POST" ∷ codes "DELETE" ∷ []))

-- the names in a field's list, separated by commas and without blanks around them
abbrev pub names_in : List ℕ → List (List ℕ)
names_in [] = [] ∷ []
names_in (b ∷ text) =
    if b == 44 then [] ∷ names_in text
    else (if b == 32 then names_in text else onto_first b (names_in text))

-- a field's list has the name
abbrev pub is_listed : List ℕ → List ℕ → Bool
is_listed name text = list_any (bytes_eq name) (names_in text)
