-- The command line of `compare`, and the values of its task.
use Rattle.std.specs.Prelude.{◌≡◌, ◌∷◌, [], List, Some, codes, false, string_bytes}
use Rattle.clap.specs.Words.{App, Row, first_of, new_app, with_rule}
use Rattle.office_program.specs.CommandLine.{required_rule}
use Rattle.office_program.specs.Sources.{is_stdin_shared}
use Rattle.office_program.specs.declared.words.Task.{Task}
use Rattle.office_program.specs.declared.words.Task.TheVariants.{Check, CheckAll, CheckAs, Compare, Explain, Export, Load, Places, Serve}

-- the command `compare SESSION A B`
abbrev pub compare_app : App
compare_app = with_rule (with_rule (with_rule (new_app (codes "compare"))
    (required_rule (codes "session"))) (required_rule (codes "before")))
    (required_rule (codes "after"))

-- the values found for `compare` are those of the task; one file at most is standard input
abbrev pub HasCompareValues : List Row → Task → Type 0
HasCompareValues rows (Check instance solution) = ⊥
HasCompareValues rows (CheckAs instance solution form) = ⊥
HasCompareValues rows (CheckAll session solutions form) = ⊥
HasCompareValues rows (Places instance solution exam) = ⊥
HasCompareValues rows (Compare session before after) =
    (first_of (codes "session") rows ≡ Some (string_bytes session))
    × (first_of (codes "before") rows ≡ Some (string_bytes before))
    × (first_of (codes "after") rows ≡ Some (string_bytes after))
    × (is_stdin_shared (string_bytes session ∷ string_bytes before ∷ string_bytes after ∷ [])
    ≡ false)
HasCompareValues rows (Load database instance) = ⊥
HasCompareValues rows (Serve database terms) = ⊥
HasCompareValues rows (Export database) = ⊥
HasCompareValues rows (Explain words) = ⊥
