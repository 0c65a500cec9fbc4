-- The command line of `load` and `export`, in clap's terms: the arguments of each, and the
-- values of its task.
use Rattle.std.specs.Prelude.{◌≡◌, List, Some, codes, string_bytes, true}
use Rattle.clap.specs.Words.{App, Row, Rule, Text, first_of, new_app, new_rule, with_rule}
use Rattle.clap.specs.declared.builder.action.ArgAction.TheVariants.{SetTrue}
use Rattle.office_program.specs.declared.words.Task.{Task}
use Rattle.office_program.specs.declared.words.Task.TheVariants.{Check, CheckAll, CheckAs, Compare, Explain, Export, Load, Places, Serve}

-- a required argument with one value
abbrev pub required_rule : Text → Rule
required_rule id = record (new_rule id) { required = true; value_names = 1 }

-- a flag
abbrev pub flag_rule : Text → Rule
flag_rule id = record (new_rule id) { long = Some id; action = Some SetTrue }

-- a required option with one value
abbrev pub named_rule : Text → Rule
named_rule id = record (required_rule id) { long = Some id }

-- the command `load --db FILE INSTANCE`
abbrev pub load_app : App
load_app = with_rule (with_rule (new_app (codes "load")) (named_rule (codes "db")))
    (required_rule (codes "instance"))

-- the values found for `load` are those of the task
abbrev pub HasLoadValues : List Row → Task → Type 0
HasLoadValues rows (Check instance solution) = ⊥
HasLoadValues rows (CheckAs instance solution form) = ⊥
HasLoadValues rows (CheckAll session solutions form) = ⊥
HasLoadValues rows (Places instance solution exam) = ⊥
HasLoadValues rows (Compare session before after) = ⊥
HasLoadValues rows (Load database instance) =
    (first_of (codes "db") rows ≡ Some (string_bytes database))
    × (first_of (codes "instance") rows ≡ Some (string_bytes instance))
HasLoadValues rows (Serve database terms) = ⊥
HasLoadValues rows (Export database) = ⊥
HasLoadValues rows (Explain words) = ⊥

-- the command `export --db FILE`
abbrev pub export_app : App
export_app = with_rule (new_app (codes "export")) (named_rule (codes "db"))

-- the values found for `export` are those of the task
abbrev pub HasExportValues : List Row → Task → Type 0
HasExportValues rows (Check instance solution) = ⊥
HasExportValues rows (CheckAs instance solution form) = ⊥
HasExportValues rows (CheckAll session solutions form) = ⊥
HasExportValues rows (Places instance solution exam) = ⊥
HasExportValues rows (Compare session before after) = ⊥
HasExportValues rows (Load database instance) = ⊥
HasExportValues rows (Serve database terms) = ⊥
HasExportValues rows (Export database) =
    first_of (codes "db") rows ≡ Some (string_bytes database)
HasExportValues rows (Explain words) = ⊥
