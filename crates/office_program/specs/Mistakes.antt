-- The mistakes in the words of a command, apart from those that clap finds.
use Rattle.std.specs.Prelude.{◌∷◌, [], List, Option, codes, if◌then◌else◌, option_and_then, option_map}
use Rattle.std.specs.Option.{option_map_or}
use Rattle.std.specs.Str.{bytes_eq}
use Rattle.clap.specs.Words.{Kinds, Row, Text, all_of, first_of}
use Rattle.clap.specs.Kinds.{or_else}
use Rattle.clap.specs.declared.error.kind.ErrorKind.TheVariants.{InvalidValue}
use Rattle.office_program.specs.CheckLine.{form_errors}
use Rattle.office_program.specs.Explaining.{explain_errors}
use Rattle.office_program.specs.Sources.{is_stdin_shared}

-- the paths among the values of `check`
abbrev pub check_paths : List Row → Option (List Text)
check_paths rows = option_and_then (λ instance. option_map (λ solution. instance ∷ solution ∷ [])
    (first_of (codes "solution") rows)) (first_of (codes "instance") rows)

-- the paths among the values of `check-all`
abbrev pub check_all_paths : List Row → Option (List Text)
check_all_paths rows = option_and_then (λ session. option_map (λ solutions. session ∷ solutions)
    (all_of (codes "solutions") rows)) (first_of (codes "session") rows)

-- the paths among the values of `places`
abbrev pub places_paths : List Row → Option (List Text)
places_paths rows = option_and_then (λ session. option_map (λ solution. session ∷ solution ∷ [])
    (first_of (codes "solution") rows)) (first_of (codes "session") rows)

-- the paths among the values of `compare`
abbrev pub compare_paths : List Row → Option (List Text)
compare_paths rows = option_and_then (λ session. option_and_then (λ before.
    option_map (λ after. session ∷ before ∷ after ∷ []) (first_of (codes "after") rows))
    (first_of (codes "before") rows)) (first_of (codes "session") rows)

-- the kind of the error if more than one of these paths mean standard input
abbrev pub sharing_errors : Option (List Text) → Kinds
sharing_errors paths =
    option_map_or (λ ps. if is_stdin_shared ps then InvalidValue ∷ [] else []) paths []

-- the kind of the error in the words of `check`: first of the paths, then of the form
abbrev pub check_errors : List Row → Kinds
check_errors rows = or_else (sharing_errors (check_paths rows)) (form_errors rows)

-- the kinds of error that a command and its values may give, apart from those that clap finds
abbrev pub mistakes_in : Option (Text × List Row) → Kinds
mistakes_in found = option_map_or (λ p.
    if bytes_eq p.0 (codes "check") then check_errors p.1
    else (if bytes_eq p.0 (codes "check-all") then sharing_errors (check_all_paths p.1)
    else (if bytes_eq p.0 (codes "places") then sharing_errors (places_paths p.1)
    else (if bytes_eq p.0 (codes "compare") then sharing_errors (compare_paths p.1)
    else (if bytes_eq p.0 (codes "explain") then explain_errors p.1 else []))))) found []
