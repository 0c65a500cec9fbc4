-- The command line of `check-all`, and the values of its task.
use Rattle.std.specs.Prelude.{◌≡◌, ◌∷◌, List, Option, Some, None, codes, false, map, string_bytes}
use Rattle.clap.specs.Lexer.{usize_max}
use Rattle.clap.specs.Words.{App, Row, Rule, Text, all_of, first_of, new_app, one_of, with_rule}
use Rattle.office_check.specs.declared.judging.LineForm.{LineForm}
use Rattle.office_check.specs.declared.judging.LineForm.TheVariants.{Json, Plain}
use Rattle.office_program.specs.CommandLine.{flag_rule, required_rule}
use Rattle.office_program.specs.Sources.{is_stdin_shared}
use Rattle.office_program.specs.declared.words.Task.{Task}
use Rattle.office_program.specs.declared.words.Task.TheVariants.{Check, CheckAll, CheckAs, Compare, Explain, Export, Load, Places, Serve}

-- the solutions: one or more, at the end of the words
abbrev pub solutions_rule : Rule
solutions_rule = record (required_rule (codes "solutions")) {
  range = Some (record { start_inclusive = 1; end_inclusive = usize_max });
}

-- the command `check-all [--json] SESSION SOLUTION..`
abbrev pub check_all_app : App
check_all_app = with_rule (with_rule (with_rule (new_app (codes "check-all"))
    (flag_rule (codes "json")))
    (required_rule (codes "session"))) solutions_rule

-- the value of the flag requests this form
pub record RequestsForm (value : Option Text) (form : LineForm) : Type 0 where
  pub json : value ≡ Some (codes "true") → form ≡ Json
  pub plain : value ≡ Some (codes "false") → form ≡ Plain
  pub none : value ≡ None → form ≡ Plain

-- the values found for `check-all` are those of the task; one file at most is standard input
abbrev pub HasCheckAllValues : List Row → Task → Type 0
HasCheckAllValues rows (Check instance solution) = ⊥
HasCheckAllValues rows (CheckAs instance solution form) = ⊥
HasCheckAllValues rows (CheckAll session solutions form) =
    (first_of (codes "session") rows ≡ Some (string_bytes session))
    × (all_of (codes "solutions") rows ≡ Some (map string_bytes solutions.items))
    × RequestsForm (one_of (codes "json") rows) form
    × (is_stdin_shared (string_bytes session ∷ map string_bytes solutions.items) ≡ false)
HasCheckAllValues rows (Places instance solution exam) = ⊥
HasCheckAllValues rows (Compare session before after) = ⊥
HasCheckAllValues rows (Load database instance) = ⊥
HasCheckAllValues rows (Serve database terms) = ⊥
HasCheckAllValues rows (Export database) = ⊥
HasCheckAllValues rows (Explain words) = ⊥
