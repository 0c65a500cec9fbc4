use Rattle.std.proofs.Common.{rules, ap, ap₂, codes, ◌≡◌, ◌∙◌}
use Rattle.std.proofs.lemmas.Result.{IfOk-weaker}
use Rattle.clap.specs.Words.{App, app_of, new_app, with_rule, with_subcommand}
use Rattle.clap.specs.Simple.{app_of_fields}
use Rattle.office_program.specs.CommandLine.{load_app, named_rule}
use Rattle.office_program.proofs.commands.load_command.Goals as goal

pub returns : goal.returns
returns c =
    let database = c.required_option-database.ensures in
    let instance = c.required-instance.ensures in
    let named : app_of c.after_help.result ≡ new_app (codes "load") =
    ap app_of_fields c.after_help.ensures ∙ ap app_of_fields c.about.ensures ∙ c.new.ensures.app in
    let one : app_of c.in_ok-arg.field-0
    ≡ with_rule (new_app (codes "load")) (named_rule (codes "db")) =
    c.in_ok-arg.ensures.shape database.local ∙ ap₂ with_rule named database.rule in
    IfOk-weaker c.arg-2.result _ _ (λ w added.
    let two : app_of w ≡ load_app = added.shape instance.local ∙ ap₂ with_rule one instance.rule in
    λ old new sub. sub.shape (search rules)
    ∙ ap (λ (a : App). with_subcommand (app_of old) a.top) two) c.arg-2.ensures
