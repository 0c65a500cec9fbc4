use Rattle.std.proofs.Common.{ap, Some, ◌≡◌, ◌∙◌}
use Rattle.clap.specs.Words.{Rule, rule_of}
use Rattle.office_program.proofs.commands.required_option.Goals as goal

pub returns-clause-rule : goal.returns-clause-rule
returns-clause-rule c =
    let built : rule_of c.long.result
    ≡ record (rule_of c.required.result) { long = Some c.args.id.now } =
    rw c.long.ensures in
    built ∙ ap (λ (r : Rule). record r { long = Some c.args.id.now }) c.required.ensures.rule

pub returns-clause-local : goal.returns-clause-local
returns-clause-local c = rw c.long.ensures c.required.ensures.local

pub returns-clause-name : goal.returns-clause-name
returns-clause-name c = rw c.long.ensures c.required.ensures.name

pub returns-clause-help : goal.returns-clause-help
returns-clause-help c = rw c.long.ensures c.required.ensures.help
