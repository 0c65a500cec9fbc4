use Rattle.std.proofs.Common.{rules, ap, ap₂, codes, ◌≡◌, ◌∙◌}
use Rattle.std.proofs.lemmas.Result.{IfOk-weaker}
use Rattle.clap.specs.Words.{App, app_of, new_app, with_rule, with_subcommand}
use Rattle.clap.specs.Simple.{app_of_fields}
use Rattle.office_program.specs.CommandLine.{named_rule}
use Rattle.office_program.specs.ServeLine.{connections_rule, port_rule, serve_app}
use Rattle.office_program.proofs.commands.serve_command.Goals as goal

pub returns : goal.returns
returns c =
    let database = c.required_option-database.ensures in
    let port = c.port_option.ensures in
    let connections = c.connections_option.ensures in
    let patience = c.patience_option.ensures in
    let named : app_of c.after_help.result ≡ new_app (codes "serve") =
    ap app_of_fields c.after_help.ensures ∙ ap app_of_fields c.about.ensures ∙ c.new.ensures.app in
    let one : app_of c.in_ok-arg.field-0
    ≡ with_rule (new_app (codes "serve")) (named_rule (codes "db")) =
    c.in_ok-arg.ensures.shape database.local ∙ ap₂ with_rule named database.rule in
    let two : app_of c.in_ok-arg-2.field-0 ≡ with_rule
    (with_rule (new_app (codes "serve")) (named_rule (codes "db"))) port_rule =
    c.in_ok-arg-2.ensures.shape port.local ∙ ap₂ with_rule one port.rule in
    let three : app_of c.in_ok-arg-3.field-0 ≡ with_rule (with_rule
    (with_rule (new_app (codes "serve")) (named_rule (codes "db"))) port_rule) connections_rule =
    c.in_ok-arg-3.ensures.shape connections.local ∙ ap₂ with_rule two connections.rule in
    IfOk-weaker c.arg-4.result _ _ (λ w added.
    let four : app_of w ≡ serve_app =
    added.shape patience.local ∙ ap₂ with_rule three patience.rule in
    λ old new sub. sub.shape (search rules)
    ∙ ap (λ (a : App). with_subcommand (app_of old) a.top) four) c.arg-4.ensures
