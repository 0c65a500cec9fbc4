use Rattle.std.proofs.Common.{ap, ◌≡◌, ◌∙◌, true}
use Rattle.clap.specs.Words.{Rule, rule_of}
use Rattle.office_program.proofs.commands.required.Goals as goal

pub returns-clause-rule : goal.returns-clause-rule
returns-clause-rule c =
    let built : rule_of c.required.result
    ≡ record (rule_of c.new.result) { required = true; value_names = 1 } =
    rw (c.required.ensures, c.help.ensures, c.value_name.ensures) in
    built ∙ ap (λ (r : Rule). record r { required = true; value_names = 1 }) c.new.ensures.rule

pub returns-clause-local : goal.returns-clause-local
returns-clause-local c =
    rw (c.required.ensures, c.help.ensures, c.value_name.ensures) c.new.ensures.optional.1

pub returns-clause-name : goal.returns-clause-name
returns-clause-name c = rw (c.required.ensures, c.help.ensures, c.value_name.ensures)

pub returns-clause-help : goal.returns-clause-help
returns-clause-help c = rw (c.required.ensures, c.help.ensures)
