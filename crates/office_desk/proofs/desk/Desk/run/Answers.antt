use Rattle.std.proofs.Common.{subst, sym}
use Rattle.office_policy.specs.Commands.{plain_command}
use Rattle.office_model.specs.Answers.{denied}
use Rattle.office_desk.specs.Answers.{plain_answer}
use Rattle.office_desk.specs.Performing.{CommandAnswered}
use Rattle.office_desk.proofs.RunLemmas.{denied_answered, failed_answered, performed_answered}
use Rattle.office_desk.proofs.desk.Desk.run.Goals as goal

pub returns-in-Ok-Ok : goal.returns-in-Ok-Ok
returns-in-Ok-Ok g c =
    let caller = c.args.caller in
    let command = plain_command c.args.command.now in
    subst (λ h. CommandAnswered g.S.Store caller command h c.perform.new.office
    (plain_answer c.into_answer.result)) c.self.view_is
    (subst (CommandAnswered g.S.Store caller command c.self.inside.office c.perform.new.office)
    (sym c.into_answer.ensures)
    (performed_answered g.S.Store caller command c.self.inside.office c.permission.new.office
    c.permission.ensures.leaves c.perform.new.office _ c.in-Ok-Ok.field-0-is
    c.in-Ok-Ok.ensures.asked _ c.perform.ensures))

pub returns-in-Ok-Err : goal.returns-in-Ok-Err
returns-in-Ok-Err g c =
    let caller = c.args.caller in
    let command = plain_command c.args.command.now in
    subst (λ h. CommandAnswered g.S.Store caller command h c.permission.new.office
    (denied c.in-Ok-Err.denial)) c.self.view_is
    (denied_answered g.S.Store caller command c.self.inside.office c.permission.new.office
    c.permission.ensures.leaves _ c.in-Ok-Err.denial c.in-Ok-Err.field-0-is
    c.in-Ok-Err.ensures.asked)

pub returns-in-Err : goal.returns-in-Err
returns-in-Err g c =
    let caller = c.args.caller in
    let command = plain_command c.args.command.now in
    subst (λ h. CommandAnswered g.S.Store caller command h c.permission.new.office
    (plain_answer c.from.result)) c.self.view_is
    (subst (CommandAnswered g.S.Store caller command c.self.inside.office c.permission.new.office)
    (sym c.from.ensures)
    (failed_answered g.S.Store caller command c.self.inside.office c.permission.new.office
    c.permission.ensures.leaves c.in-Err.fault c.in-Err.ensures.asked))
