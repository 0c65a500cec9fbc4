-- The command line of `serve`: its options, and the values of its task.
use Rattle.std.specs.Prelude.{◌≡◌, ◌≤◌, ℕ, [], ◌∷◌, List, Some, codes, pos, string_bytes}
use Rattle.std.specs.Str.Parse.{IsNumeral, digits_value, without_leading_plus}
use Rattle.clap.specs.Words.{App, Row, Rule, Text, first_of}
use Rattle.clap.specs.Words.{new_app, new_rule, one_of, with_rule}
use Rattle.clap.specs.declared.builder.value_parser.ValueParser.TheVariants.{Signed}
use Rattle.office_program.specs.declared.words.Task.{Task}
use Rattle.office_program.specs.declared.words.Task.TheVariants.{Check, CheckAll, CheckAs, Compare, Explain, Export, Load, Places, Serve}
use Rattle.office_program.specs.declared.words.Terms.{Terms}
use Rattle.office_program.specs.CommandLine.{named_rule}

-- an option with a whole number within these bounds as its value
abbrev pub number_option : Rule → ℕ → ℕ → Rule
number_option rule least most = record rule { parser = Some (Signed (pos least) (pos most)) }

-- the required option of the port
abbrev pub port_rule : Rule
port_rule = number_option (named_rule (codes "port")) 0 65535

-- the required option of the number of connections
abbrev pub connections_rule : Rule
connections_rule = number_option (named_rule (codes "connections")) 1 1000000

-- the option of the timeout in seconds, by default 30
abbrev pub patience_rule : Rule
patience_rule = record (number_option (new_rule (codes "patience")) 1 86400) {
  long = Some (codes "patience");
  value_names = 1;
  defaults = codes "30" ∷ [];
}

-- the command `serve --db FILE --port N --connections K [--patience SECONDS]`
abbrev pub serve_app : App
serve_app = with_rule (with_rule (with_rule (with_rule (new_app (codes "serve"))
    (named_rule (codes "db"))) port_rule) connections_rule) patience_rule

-- the value with this name is the number in decimal digits, with or without a plus
abbrev pub HasNumber : Text → List Row → ℕ → Type 0
HasNumber name rows n =
    (text : Text) × (one_of name rows ≡ Some text) × IsNumeral 10 (without_leading_plus text)
    × (n ≡ digits_value 10 (without_leading_plus text))

-- the numbers found for `serve` are those of the terms, each within its bounds
abbrev pub HasTerms : List Row → Terms → Type 0
HasTerms rows terms =
    HasNumber (codes "port") rows terms.port × (terms.port ≤ 65535)
    × HasNumber (codes "connections") rows terms.connections
    × (1 ≤ terms.connections) × (terms.connections ≤ 1000000)
    × HasNumber (codes "patience") rows terms.patience
    × (1 ≤ terms.patience) × (terms.patience ≤ 86400)

-- the values found for `serve` are those of the task
abbrev pub HasServeValues : List Row → Task → Type 0
HasServeValues rows (Check instance solution) = ⊥
HasServeValues rows (CheckAs instance solution form) = ⊥
HasServeValues rows (CheckAll session solutions form) = ⊥
HasServeValues rows (Places instance solution exam) = ⊥
HasServeValues rows (Compare session before after) = ⊥
HasServeValues rows (Load database instance) = ⊥
HasServeValues rows (Serve database terms) =
    (first_of (codes "db") rows ≡ Some (string_bytes database)) × HasTerms rows terms
HasServeValues rows (Export database) = ⊥
HasServeValues rows (Explain words) = ⊥
