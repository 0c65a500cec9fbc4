-- The tasks of words on the small session, by the definitions of the command line only.
use Rattle.std.proofs.Common.{[], ◌≡◌, ◌∙◌, List, Option, Some, None, ap, false, refl, sym, true}
use Rattle.std.specs.Prelude.{codes, string_bytes}
use Rattle.std.specs.Str.{bytes_eq}
use Rattle.std.proofs.lemmas.Bool.Decides.{not_from_Decides}
use Rattle.std.proofs.lemmas.Slice.Eq.{bytes_eq-Decides}
use Rattle.clap.specs.Faults.{defaults_fault, walk_fault}
use Rattle.clap.specs.Walk.{walked}
use Rattle.clap.specs.Words.{Row, Text, first_of, subcommand_of}
use Rattle.office_program.specs.CheckLine.{HasForm, is_given}
use Rattle.office_program.specs.Program.{IsTask, fault_of_words, program}
use Rattle.office_program.specs.declared.checking.CheckForm.{CheckForm}
use Rattle.office_program.specs.declared.checking.CheckForm.TheVariants.{Json, Why, WhyFor}
use Rattle.office_program.specs.declared.words.Task.{Task}
use Rattle.office_program.specs.declared.words.Task.TheVariants.{Check, CheckAll, CheckAs, Compare, Explain, Export, Load, Places, Serve}
use Rattle.worked_runs.specs.SmallSession.{check_words, export_words, load_words}

-- ---- what is found of a command and its values

abbrev of_found : {X : Type 0} → X → (Text → List Row → X) → Option (Text × List Row) → X
of_found other f None = other
of_found other f (Some found) = f found.0 found.1

module _ (found : Option (Text × List Row)) where
  -- another name isn't found
  not_named : (own name : Text) (rows : List Row) → of_found [] (λ name rows. name) found ≡ own
      → bytes_eq own name ≡ false → found ≡ Some (name, rows) → ⊥
  not_named own name rows is differ named =
      not_from_Decides (bytes_eq own name) (bytes_eq-Decides own name) differ
      (sym is ∙ ap (of_found [] (λ name rows. name)) named)

  -- there is one value of each name
  same_value : (id own value name : Text) (rows : List Row)
      → of_found None (λ name rows. first_of id rows) found ≡ Some own
      → found ≡ Some (name, rows) → first_of id rows ≡ Some value → value ≡ own
  same_value id own value name rows is named values =
      let same : Some value ≡ Some own = sym values
      ∙ sym (ap (of_found None (λ name rows. first_of id rows)) named) ∙ is in cc

  -- a flag is given or not
  no_flag : (id name : Text) (rows : List Row)
      → of_found false (λ name rows. is_given id rows) found ≡ false
      → found ≡ Some (name, rows) → is_given id rows ≡ true → ⊥
  no_flag id name rows is named given =
      let never : true ≡ false = sym given
      ∙ sym (ap (of_found false (λ name rows. is_given id rows)) named) ∙ is in absurd cc

-- ---- of `check`

pub no_mistake_to_check : fault_of_words check_words ≡ []
unfolding walk_fault walked defaults_fault
no_mistake_to_check = refl

check_name : of_found [] (λ name rows. name) (subcommand_of program check_words) ≡ codes "check"
unfolding walked
check_name = refl

check_session : of_found None (λ name rows. first_of (codes "instance") rows)
    (subcommand_of program check_words) ≡ Some (codes "small.exam")
unfolding walked
check_session = refl

check_solution : of_found None (λ name rows. first_of (codes "solution") rows)
    (subcommand_of program check_words) ≡ Some (codes "small.sol")
unfolding walked
check_solution = refl

check_why : of_found false (λ name rows. is_given (codes "why") rows)
    (subcommand_of program check_words) ≡ false
unfolding walked
check_why = refl

check_json : of_found false (λ name rows. is_given (codes "json") rows)
    (subcommand_of program check_words) ≡ false
unfolding walked
check_json = refl

-- the words ask for the report
no_form : (form : CheckForm) (name : Text) (rows : List Row)
    → subcommand_of program check_words ≡ Some (name, rows) → HasForm rows form → ⊥
no_form Why name rows found form = no_flag _ _ name rows check_why found form.0
no_form (WhyFor student) name rows found form = no_flag _ _ name rows check_why found form.0
no_form Json name rows found form = no_flag _ _ name rows check_json found form.2

-- a fact of the two paths holds of the task
pub task_of_check : (P : Task → Type 0)
    → ((instance solution : _) → string_bytes instance ≡ codes "small.exam"
    → string_bytes solution ≡ codes "small.sol" → P (Check instance solution))
    → (task : Task) → IsTask check_words task → P task
task_of_check P holds (Check instance solution) (rows, found, values) =
    holds instance solution
    (same_value _ _ _ _ _ rows check_session found values.0.0)
    (same_value _ _ _ _ _ rows check_solution found values.0.1)
task_of_check P holds (CheckAs instance solution form) (rows, found, values) =
    absurd (no_form form _ rows found values.1)
task_of_check P holds (CheckAll session solutions form) (rows, found, values) =
    absurd (not_named _ _ _ rows check_name refl found)
task_of_check P holds (Places instance solution exam) (rows, found, values) =
    absurd (not_named _ _ _ rows check_name refl found)
task_of_check P holds (Compare session before after) (rows, found, values) =
    absurd (not_named _ _ _ rows check_name refl found)
task_of_check P holds (Load database instance) (rows, found, values) =
    absurd (not_named _ _ _ rows check_name refl found)
task_of_check P holds (Serve database terms) (rows, found, values) =
    absurd (not_named _ _ _ rows check_name refl found)
task_of_check P holds (Export database) (rows, found, values) =
    absurd (not_named _ _ _ rows check_name refl found)
task_of_check P holds (Explain words) (rows, found, values) =
    absurd (not_named _ _ _ rows check_name refl found)

-- ---- of `load`

pub no_mistake_to_load : fault_of_words load_words ≡ []
unfolding walk_fault walked defaults_fault
no_mistake_to_load = refl

load_name : of_found [] (λ name rows. name) (subcommand_of program load_words) ≡ codes "load"
unfolding walked
load_name = refl

load_database : of_found None (λ name rows. first_of (codes "db") rows)
    (subcommand_of program load_words) ≡ Some (codes "term.db")
unfolding walked
load_database = refl

load_session : of_found None (λ name rows. first_of (codes "instance") rows)
    (subcommand_of program load_words) ≡ Some (codes "small.exam")
unfolding walked
load_session = refl

pub task_of_load : (P : Task → Type 0)
    → ((database instance : _) → string_bytes database ≡ codes "term.db"
    → string_bytes instance ≡ codes "small.exam" → P (Load database instance))
    → (task : Task) → IsTask load_words task → P task
task_of_load P holds (Load database instance) (rows, found, values) =
    holds database instance
    (same_value _ _ _ _ _ rows load_database found values.0)
    (same_value _ _ _ _ _ rows load_session found values.1)
task_of_load P holds (Check instance solution) (rows, found, values) =
    absurd (not_named _ _ _ rows load_name refl found)
task_of_load P holds (CheckAs instance solution form) (rows, found, values) =
    absurd (not_named _ _ _ rows load_name refl found)
task_of_load P holds (CheckAll session solutions form) (rows, found, values) =
    absurd (not_named _ _ _ rows load_name refl found)
task_of_load P holds (Places instance solution exam) (rows, found, values) =
    absurd (not_named _ _ _ rows load_name refl found)
task_of_load P holds (Compare session before after) (rows, found, values) =
    absurd (not_named _ _ _ rows load_name refl found)
task_of_load P holds (Serve database terms) (rows, found, values) =
    absurd (not_named _ _ _ rows load_name refl found)
task_of_load P holds (Export database) (rows, found, values) =
    absurd (not_named _ _ _ rows load_name refl found)
task_of_load P holds (Explain words) (rows, found, values) =
    absurd (not_named _ _ _ rows load_name refl found)

-- ---- of `export`

pub no_mistake_to_export : fault_of_words export_words ≡ []
unfolding walk_fault walked defaults_fault
no_mistake_to_export = refl

export_name : of_found [] (λ name rows. name) (subcommand_of program export_words)
    ≡ codes "export"
unfolding walked
export_name = refl

export_database : of_found None (λ name rows. first_of (codes "db") rows)
    (subcommand_of program export_words) ≡ Some (codes "term.db")
unfolding walked
export_database = refl

pub task_of_export : (P : Task → Type 0)
    → ((database : _) → string_bytes database ≡ codes "term.db" → P (Export database))
    → (task : Task) → IsTask export_words task → P task
task_of_export P holds (Export database) (rows, found, values) =
    holds database (same_value _ _ _ _ _ rows export_database found values)
task_of_export P holds (Check instance solution) (rows, found, values) =
    absurd (not_named _ _ _ rows export_name refl found)
task_of_export P holds (CheckAs instance solution form) (rows, found, values) =
    absurd (not_named _ _ _ rows export_name refl found)
task_of_export P holds (CheckAll session solutions form) (rows, found, values) =
    absurd (not_named _ _ _ rows export_name refl found)
task_of_export P holds (Places instance solution exam) (rows, found, values) =
    absurd (not_named _ _ _ rows export_name refl found)
task_of_export P holds (Compare session before after) (rows, found, values) =
    absurd (not_named _ _ _ rows export_name refl found)
task_of_export P holds (Load database instance) (rows, found, values) =
    absurd (not_named _ _ _ rows export_name refl found)
task_of_export P holds (Serve database terms) (rows, found, values) =
    absurd (not_named _ _ _ rows export_name refl found)
task_of_export P holds (Explain words) (rows, found, values) =
    absurd (not_named _ _ _ rows export_name refl found)
