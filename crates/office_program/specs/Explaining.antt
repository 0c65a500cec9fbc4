-- The words that explain faults, and the command line of `explain`.
use Rattle.std.specs.Prelude.{◌≡◌, ◌==◌, ◌-◌, ℕ, [], ◌∷◌, List, None, Option, Some, codes}
use Rattle.std.specs.Prelude.{if◌then◌else◌, map, option_and_then, slice_get}
use Rattle.std.specs.Option.{option_map_or}
use Rattle.std.specs.Str.{bytes_eq}
use Rattle.std.specs.Str.Parse.{digits_value, without_leading_plus}
use Rattle.clap.specs.Words.{App, Kinds, Row, Rule, Text, first_of, new_app, one_of, with_rule}
use Rattle.clap.specs.declared.error.kind.ErrorKind.TheVariants.{InvalidValue}
use Rattle.office_program.specs.CommandLine.{required_rule}
use Rattle.office_program.specs.ServeLine.{number_option}
use Rattle.office_program.specs.declared.explaining.TheConstants.{CONNECTION, FILE, MAX_NUMBER, STORE}
use Rattle.office_program.specs.declared.words.Task.{Task}
use Rattle.office_program.specs.declared.words.Task.TheVariants.{Check, CheckAll, CheckAs, Compare, Explain, Export, Load, Places, Serve}

-- the text of this number, from 1
abbrev pub numbered_text : List Text → ℕ → Option Text
numbered_text texts n = if n == 0 then None else slice_get texts (n - 1)

-- the words of the fault of this kind and number, if there is one
abbrev pub fault_words : Text → ℕ → Option Text
fault_words kind n =
    if bytes_eq kind (codes "file") then numbered_text (map (λ text. text.now) FILE) n
    else (if bytes_eq kind (codes "store") then numbered_text (map (λ text. text.now) STORE) n
    else (if bytes_eq kind (codes "connection")
    then numbered_text (map (λ text. text.now) CONNECTION) n else None))

-- the argument with the number of a fault
abbrev pub fault_rule : Rule
fault_rule = number_option (required_rule (codes "number")) 0 MAX_NUMBER

-- the command `explain KIND NUMBER`
abbrev pub explain_app : App
explain_app = with_rule (with_rule (new_app (codes "explain")) (required_rule (codes "kind")))
    fault_rule

-- the words of the fault that the values of `explain` name, if there is one
abbrev pub explain_words : List Row → Option Text
explain_words rows = option_and_then (λ kind. option_and_then (λ number.
    fault_words kind (digits_value 10 (without_leading_plus number)))
    (one_of (codes "number") rows)) (first_of (codes "kind") rows)

-- the values found for `explain` are those of the task
abbrev pub HasExplainValues : List Row → Task → Type 0
HasExplainValues rows (Check instance solution) = ⊥
HasExplainValues rows (CheckAs instance solution form) = ⊥
HasExplainValues rows (CheckAll session solutions form) = ⊥
HasExplainValues rows (Places instance solution exam) = ⊥
HasExplainValues rows (Compare session before after) = ⊥
HasExplainValues rows (Load database instance) = ⊥
HasExplainValues rows (Serve database terms) = ⊥
HasExplainValues rows (Export database) = ⊥
HasExplainValues rows (Explain words) = explain_words rows ≡ Some words.now

-- the kind of the error if the values of `explain` name no fault
abbrev pub explain_errors : List Row → Kinds
explain_errors rows = option_map_or (λ words. []) (explain_words rows) (InvalidValue ∷ [])
