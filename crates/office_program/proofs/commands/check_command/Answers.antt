use Rattle.std.proofs.Common.{rules, ap, ap₂, codes, ◌≡◌, ◌∙◌}
use Rattle.std.proofs.lemmas.Result.{IfOk-weaker}
use Rattle.clap.specs.Words.{App, app_of, new_app, with_rule, with_subcommand}
use Rattle.clap.specs.Simple.{app_of_fields}
use Rattle.office_program.specs.CheckLine.{check_app, student_rule}
use Rattle.office_program.specs.CommandLine.{flag_rule, required_rule}
use Rattle.office_program.proofs.commands.check_command.Goals as goal

pub returns : goal.returns
returns c =
    let why = c.why_flag.ensures in
    let student = c.student_option.ensures in
    let json = c.json_flag.ensures in
    let instance = c.required-instance.ensures in
    let solution = c.required-solution.ensures in
    let named : app_of c.after_help.result ≡ new_app (codes "check") =
    ap app_of_fields c.after_help.ensures ∙ ap app_of_fields c.about.ensures ∙ c.new.ensures.app in
    let one : app_of c.in_ok-arg.field-0
    ≡ with_rule (new_app (codes "check")) (flag_rule (codes "why")) =
    c.in_ok-arg.ensures.shape why.local ∙ ap₂ with_rule named why.rule in
    let two : app_of c.in_ok-arg-2.field-0 ≡ with_rule
    (with_rule (new_app (codes "check")) (flag_rule (codes "why"))) student_rule =
    c.in_ok-arg-2.ensures.shape student.local ∙ ap₂ with_rule one student.rule in
    let three : app_of c.in_ok-arg-3.field-0 ≡ with_rule (with_rule
    (with_rule (new_app (codes "check")) (flag_rule (codes "why"))) student_rule)
    (flag_rule (codes "json")) =
    c.in_ok-arg-3.ensures.shape json.local ∙ ap₂ with_rule two json.rule in
    let four : app_of c.in_ok-arg-4.field-0 ≡ with_rule (with_rule (with_rule
    (with_rule (new_app (codes "check")) (flag_rule (codes "why"))) student_rule)
    (flag_rule (codes "json"))) (required_rule (codes "instance")) =
    c.in_ok-arg-4.ensures.shape instance.local ∙ ap₂ with_rule three instance.rule in
    IfOk-weaker c.arg-5.result _ _ (λ w added.
    let five : app_of w ≡ check_app =
    added.shape solution.local ∙ ap₂ with_rule four solution.rule in
    λ old new sub. sub.shape (search rules)
    ∙ ap (λ (a : App). with_subcommand (app_of old) a.top) five) c.arg-5.ensures
