-- The program with its commands, the task of its words, and the answer to them.
use Rattle.std.specs.Prelude.{◌≡◌, ◌≢◌, List, Option, Some, codes, true}
use Rattle.clap.specs.Words.{AddsSubcommand, App, Kinds, Row, Shape, Text, app_of}
use Rattle.clap.specs.Words.{new_app, subcommand_of, with_subcommand}
use Rattle.clap.specs.Faults.{fault_of}
use Rattle.clap.specs.Kinds.{or_else}
use Rattle.clap.specs.declared.builder.command.Command.{Command}
use Rattle.clap.specs.declared.error.kind.ErrorKind.{ErrorKind}
use Rattle.clap.specs.declared.error.kind.ErrorKind.TheVariants as kind
use Rattle.office_program.specs.declared.words.Task.{Task}
use Rattle.office_program.specs.declared.words.Task.TheVariants.{Check, CheckAll, CheckAs, Compare, Explain, Export, Load, Places, Serve}
use Rattle.office_program.specs.CheckAllLine.{check_all_app, HasCheckAllValues}
use Rattle.office_program.specs.CheckLine.{check_app, HasCheckValues}
use Rattle.office_program.specs.CommandLine.{load_app, HasLoadValues, export_app, HasExportValues}
use Rattle.office_program.specs.CompareLine.{compare_app, HasCompareValues}
use Rattle.office_program.specs.PlacesLine.{places_app, HasPlacesValues}
use Rattle.office_program.specs.ServeLine.{serve_app, HasServeValues}
use Rattle.office_program.specs.Explaining.{HasExplainValues, explain_app}
use Rattle.office_program.specs.Mistakes.{mistakes_in}

-- adding the command as a subcommand adds this shape
abbrev pub AddsShape : Command → Shape → Type 0
AddsShape command shape = (old new : Command) → AddsSubcommand old command new
    → app_of new ≡ with_subcommand (app_of old) shape

-- a command that requires one of its subcommands
abbrev pub wants_subcommand : App → App
wants_subcommand a = record a { top = record a.top { subcommand_required = true } }

-- a command that has a version
abbrev pub with_version : App → App
with_version a = record a { top = record a.top { has_version = true } }

-- the program, with its commands
abbrev pub program : App
program = with_subcommand (with_subcommand (with_subcommand (with_subcommand (with_subcommand
    (with_subcommand (with_subcommand (with_subcommand (wants_subcommand (with_version
    (new_app (codes "examoffice")))) check_app.top) check_all_app.top) places_app.top)
    compare_app.top) load_app.top) serve_app.top) export_app.top) explain_app.top

-- the task is the command that clap found, with its values
abbrev pub IsTaskOf : Option (Text × List Row) → Task → Type 0
IsTaskOf found (Check instance solution) =
    (rows : List Row) × (found ≡ Some (codes "check", rows))
    × HasCheckValues rows (Check instance solution)
IsTaskOf found (CheckAs instance solution form) =
    (rows : List Row) × (found ≡ Some (codes "check", rows))
    × HasCheckValues rows (CheckAs instance solution form)
IsTaskOf found (CheckAll session solutions form) =
    (rows : List Row) × (found ≡ Some (codes "check-all", rows))
    × HasCheckAllValues rows (CheckAll session solutions form)
IsTaskOf found (Places instance solution exam) =
    (rows : List Row) × (found ≡ Some (codes "places", rows))
    × HasPlacesValues rows (Places instance solution exam)
IsTaskOf found (Compare session before after) =
    (rows : List Row) × (found ≡ Some (codes "compare", rows))
    × HasCompareValues rows (Compare session before after)
IsTaskOf found (Load database instance) =
    (rows : List Row) × (found ≡ Some (codes "load", rows))
    × HasLoadValues rows (Load database instance)
IsTaskOf found (Serve database terms) =
    (rows : List Row) × (found ≡ Some (codes "serve", rows))
    × HasServeValues rows (Serve database terms)
IsTaskOf found (Export database) =
    (rows : List Row) × (found ≡ Some (codes "export", rows))
    × HasExportValues rows (Export database)
IsTaskOf found (Explain words) =
    (rows : List Row) × (found ≡ Some (codes "explain", rows))
    × HasExplainValues rows (Explain words)

-- the task is the command that clap matches in the words
abbrev pub IsTask : List Text → Task → Type 0
IsTask words = IsTaskOf (subcommand_of program words)

-- the kinds of error that the words may give: what clap finds, or that they name no fault, standard
-- input twice or forms that don't go together
abbrev pub fault_of_words : List Text → Kinds
fault_of_words words =
    or_else (fault_of program words) (mistakes_in (subcommand_of program words))

-- an error of clap is a mistake in the words, neither a call for help nor out of memory
abbrev pub IsMistake : ErrorKind → Type 0
IsMistake k = (k ≢ kind.OutOfMemory) × (k ≢ kind.DisplayHelp) × (k ≢ kind.DisplayVersion)
