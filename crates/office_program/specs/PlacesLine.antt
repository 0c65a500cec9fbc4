-- The command line of `places`, and the values of its task.
use Rattle.std.specs.Prelude.{◌≡◌, ◌≤◌, ◌∷◌, [], List, Some, codes, false, string_bytes}
use Rattle.clap.specs.Words.{App, Row, Rule, first_of, new_app, with_rule}
use Rattle.office_program.specs.CommandLine.{required_rule}
use Rattle.office_program.specs.ServeLine.{HasNumber, number_option}
use Rattle.office_program.specs.Sources.{is_stdin_shared}
use Rattle.office_program.specs.declared.words.Task.{Task}
use Rattle.office_program.specs.declared.words.Task.TheVariants.{Check, CheckAll, CheckAs, Compare, Explain, Export, Load, Places, Serve}

-- the argument with the number of an exam, of which a session has 2,000 at most
abbrev pub exam_rule : Rule
exam_rule = number_option (required_rule (codes "exam")) 0 1999

-- the command `places SESSION SOLUTION EXAM`
abbrev pub places_app : App
places_app = with_rule (with_rule (with_rule (new_app (codes "places"))
    (required_rule (codes "session"))) (required_rule (codes "solution"))) exam_rule

-- the values found for `places` are those of the task; one file at most is standard input
abbrev pub HasPlacesValues : List Row → Task → Type 0
HasPlacesValues rows (Check instance solution) = ⊥
HasPlacesValues rows (CheckAs instance solution form) = ⊥
HasPlacesValues rows (CheckAll session solutions form) = ⊥
HasPlacesValues rows (Places instance solution exam) =
    (first_of (codes "session") rows ≡ Some (string_bytes instance))
    × (first_of (codes "solution") rows ≡ Some (string_bytes solution))
    × HasNumber (codes "exam") rows exam × (exam ≤ 1999)
    × (is_stdin_shared (string_bytes instance ∷ string_bytes solution ∷ []) ≡ false)
HasPlacesValues rows (Compare session before after) = ⊥
HasPlacesValues rows (Load database instance) = ⊥
HasPlacesValues rows (Serve database terms) = ⊥
HasPlacesValues rows (Export database) = ⊥
HasPlacesValues rows (Explain words) = ⊥
