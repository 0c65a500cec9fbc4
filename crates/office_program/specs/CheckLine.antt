-- The command line of `check`, and the values of its task.
use Rattle.std.specs.Prelude.{◌≡◌, ◌≤◌, ◌&&◌, ◌||◌, ◌∷◌, [], ℕ, Bool, List, None, Option, Some, codes, false, if◌then◌else◌, is_some, not, string_bytes, true}
use Rattle.std.specs.Option.{option_map_or}
use Rattle.std.specs.Str.{bytes_eq}
use Rattle.clap.specs.Words.{App, Kinds, Row, Rule, Text, first_of, new_app, new_rule, with_rule}
use Rattle.clap.specs.declared.error.kind.ErrorKind.TheVariants.{ArgumentConflict}
use Rattle.exam_terms.specs.declared.limits.TheConstants.{MAX_STUDENT}
use Rattle.office_program.specs.CommandLine.{flag_rule, required_rule}
use Rattle.office_program.specs.ServeLine.{HasNumber, number_option}
use Rattle.office_program.specs.Sources.{is_stdin_shared}
use Rattle.office_program.specs.declared.checking.CheckForm.{CheckForm}
use Rattle.office_program.specs.declared.checking.CheckForm.TheVariants.{Json, Why, WhyFor}
use Rattle.office_program.specs.declared.words.Task.{Task}
use Rattle.office_program.specs.declared.words.Task.TheVariants.{Check, CheckAll, CheckAs, Compare, Explain, Export, Load, Places, Serve}

-- the option with the number of a student
abbrev pub student_rule : Rule
student_rule = record (number_option (new_rule (codes "student")) 0 MAX_STUDENT) {
  long = Some (codes "student");
  value_names = 1;
}

-- the command `check [--why [--student N]] [--json] INSTANCE SOLUTION`
abbrev pub check_app : App
check_app = with_rule (with_rule (with_rule (with_rule (with_rule (new_app (codes "check"))
    (flag_rule (codes "why"))) student_rule) (flag_rule (codes "json")))
    (required_rule (codes "instance"))) (required_rule (codes "solution"))

-- ---- the form

-- whether the flag is among the words
abbrev pub is_given : Text → List Row → Bool
is_given flag rows = option_map_or (λ text. bytes_eq text (codes "true")) (first_of flag rows) false

-- whether a student is named
abbrev pub has_student : List Row → Bool
has_student rows = is_some (first_of (codes "student") rows)

-- the student who is named, by the number in the text, if one is
abbrev pub FindsStudent : List Row → Option ℕ → Type 0
FindsStudent rows None = has_student rows ≡ false
FindsStudent rows (Some student) = (has_student rows ≡ true)
    × HasNumber (codes "student") rows student × (student ≤ MAX_STUDENT)

-- the words ask for the report only
abbrev pub HasNoForm : List Row → Type 0
HasNoForm rows = (is_given (codes "why") rows ≡ false) × (has_student rows ≡ false)
    × (is_given (codes "json") rows ≡ false)

-- the words ask for this form
abbrev pub HasForm : List Row → CheckForm → Type 0
HasForm rows Why = (is_given (codes "why") rows ≡ true) × (has_student rows ≡ false)
    × (is_given (codes "json") rows ≡ false)
HasForm rows (WhyFor student) = (is_given (codes "why") rows ≡ true)
    × FindsStudent rows (Some student) × (is_given (codes "json") rows ≡ false)
HasForm rows Json = (is_given (codes "why") rows ≡ false) × (has_student rows ≡ false)
    × (is_given (codes "json") rows ≡ true)

-- a student is named without `--why`, or `--json` goes with either
abbrev pub are_mixed : Bool → Bool → Bool → Bool
are_mixed why student json = if json then why || student else student && not why

-- the kind of the error if the forms are mixed
abbrev pub form_errors : List Row → Kinds
form_errors rows =
    if are_mixed (is_given (codes "why") rows) (has_student rows) (is_given (codes "json") rows)
    then ArgumentConflict ∷ [] else []

-- ---- the task

-- the values found for `check` are these two paths, of which one at most is standard input
abbrev pub HasPaths : List Row → Text → Text → Type 0
HasPaths rows instance solution =
    (first_of (codes "instance") rows ≡ Some instance)
    × (first_of (codes "solution") rows ≡ Some solution)
    × (is_stdin_shared (instance ∷ solution ∷ []) ≡ false)

-- the values found for `check` are those of the task
abbrev pub HasCheckValues : List Row → Task → Type 0
HasCheckValues rows (Check instance solution) =
    HasPaths rows (string_bytes instance) (string_bytes solution) × HasNoForm rows
HasCheckValues rows (CheckAs instance solution form) =
    HasPaths rows (string_bytes instance) (string_bytes solution) × HasForm rows form
HasCheckValues rows (CheckAll session solutions form) = ⊥
HasCheckValues rows (Places instance solution exam) = ⊥
HasCheckValues rows (Compare session before after) = ⊥
HasCheckValues rows (Load database instance) = ⊥
HasCheckValues rows (Serve database terms) = ⊥
HasCheckValues rows (Export database) = ⊥
HasCheckValues rows (Explain words) = ⊥
