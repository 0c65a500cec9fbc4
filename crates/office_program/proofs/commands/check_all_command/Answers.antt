use Rattle.std.proofs.Common.{rules, ap, ap₂, codes, ◌≡◌, ◌∙◌}
use Rattle.std.proofs.lemmas.Result.{IfOk-weaker}
use Rattle.clap.specs.Words.{App, app_of, new_app, with_rule, with_subcommand}
use Rattle.clap.specs.Simple.{app_of_fields}
use Rattle.office_program.specs.CheckAllLine.{check_all_app}
use Rattle.office_program.specs.CommandLine.{flag_rule, required_rule}
use Rattle.office_program.proofs.commands.check_all_command.Goals as goal

pub returns : goal.returns
returns c =
    let session = c.required-session.ensures in
    let json = c.json_flag.ensures in
    let solutions = c.solutions_argument.ensures in
    let named : app_of c.after_help.result ≡ new_app (codes "check-all") =
    ap app_of_fields c.after_help.ensures ∙ ap app_of_fields c.about.ensures ∙ c.new.ensures.app in
    let one : app_of c.in_ok-arg.field-0 ≡ with_rule (new_app (codes "check-all"))
    (flag_rule (codes "json")) =
    c.in_ok-arg.ensures.shape json.local ∙ ap₂ with_rule named json.rule in
    let two : app_of c.in_ok-arg-2.field-0 ≡ with_rule
    (with_rule (new_app (codes "check-all")) (flag_rule (codes "json"))) (required_rule (codes "session")) =
    c.in_ok-arg-2.ensures.shape session.local ∙ ap₂ with_rule one session.rule in
    IfOk-weaker c.arg-3.result _ _ (λ w added.
    let three : app_of w ≡ check_all_app =
    added.shape solutions.local ∙ ap₂ with_rule two solutions.rule in
    λ old new sub. sub.shape (search rules)
    ∙ ap (λ (a : App). with_subcommand (app_of old) a.top) three) c.arg-3.ensures
