use Rattle.std.proofs.Common.{rules, ap, ap₂, codes, ◌≡◌, ◌∙◌}
use Rattle.std.proofs.lemmas.Result.{IfOk-weaker}
use Rattle.clap.specs.Words.{App, app_of, new_app, with_rule, with_subcommand}
use Rattle.clap.specs.Simple.{app_of_fields}
use Rattle.office_program.specs.CommandLine.{required_rule}
use Rattle.office_program.specs.CompareLine.{compare_app}
use Rattle.office_program.proofs.compare_words.compare_command.Goals as goal

pub returns : goal.returns
returns c =
    let session = c.required-session.ensures in
    let before = c.required-before.ensures in
    let after = c.required-after.ensures in
    let named : app_of c.after_help.result ≡ new_app (codes "compare") =
    ap app_of_fields c.after_help.ensures ∙ ap app_of_fields c.about.ensures ∙ c.new.ensures.app in
    let one : app_of c.in_ok-arg.field-0
    ≡ with_rule (new_app (codes "compare")) (required_rule (codes "session")) =
    c.in_ok-arg.ensures.shape session.local ∙ ap₂ with_rule named session.rule in
    let two : app_of c.in_ok-arg-2.field-0 ≡ with_rule
    (with_rule (new_app (codes "compare")) (required_rule (codes "session")))
    (required_rule (codes "before")) =
    c.in_ok-arg-2.ensures.shape before.local ∙ ap₂ with_rule one before.rule in
    IfOk-weaker c.arg-3.result _ _ (λ w added.
    let three : app_of w ≡ compare_app =
    added.shape after.local ∙ ap₂ with_rule two after.rule in
    λ old new sub. sub.shape (search rules)
    ∙ ap (λ (a : App). with_subcommand (app_of old) a.top) three) c.arg-3.ensures
