use Rattle.std.proofs.Common.{rules, ap, ap₂, codes, ◌≡◌, ◌∙◌}
use Rattle.std.proofs.lemmas.Result.{IfOk-weaker}
use Rattle.clap.specs.Words.{App, app_of, new_app, with_rule, with_subcommand}
use Rattle.clap.specs.Simple.{app_of_fields}
use Rattle.office_program.specs.CommandLine.{export_app}
use Rattle.office_program.proofs.commands.export_command.Goals as goal

pub returns : goal.returns
returns c =
    let database = c.required_option-database.ensures in
    let named : app_of c.after_help.result ≡ new_app (codes "export") =
    ap app_of_fields c.after_help.ensures ∙ ap app_of_fields c.about.ensures ∙ c.new.ensures.app in
    IfOk-weaker c.arg.result _ _ (λ w added.
    let one : app_of w ≡ export_app =
    added.shape database.local ∙ ap₂ with_rule named database.rule in
    λ old new sub. sub.shape (search rules)
    ∙ ap (λ (a : App). with_subcommand (app_of old) a.top) one) c.arg.ensures
