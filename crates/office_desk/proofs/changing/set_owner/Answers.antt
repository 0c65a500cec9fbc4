use Rattle.std.proofs.Common.{◌≡◌, Err, refl, rules}
use Rattle.office_model.specs.Answers.{now_owned}
use Rattle.office_model.specs.Commands.{set_owner_result}
use Rattle.office_model.specs.Step.{outcome}
use Rattle.office_desk.proofs.AnswerLemmas.{body_performed, fault_changed, ok_changed}
use Rattle.office_desk.proofs.changing.set_owner.Goals as goal

pub returns-in_err-dept : goal.returns-in_err-dept
returns-in_err-dept g c caller =
    let is : c.from_residual.result ≡ Err c.in_err-dept.field-0.0 = search rules in
    body_performed g.S.Store (λ office dept. outcome (λ done. now_owned c.args.exam dept)
    office (set_owner_result c.args.exam dept office))
    c.args.body c.args.office.now _ _ is c.in_err-dept.ensures

pub returns-in_err-set_owner : goal.returns-in_err-set_owner
returns-in_err-set_owner g c caller =
    rw c.in_ok-dept.ensures
    (fault_changed g.S.Store (λ done. now_owned c.args.exam c.in_ok-dept.dept)
    (set_owner_result c.args.exam c.in_ok-dept.dept) c.args.office.now c.set_owner.new.self _ _
    c.in_err-set_owner.ensures.runs c.in_err-set_owner.ensures.leaves
    c.from_residual-in_err-set_owner.ensures.1)

pub returns : goal.returns
returns g c caller =
    rw c.in_ok-dept.ensures
    (ok_changed g.S.Store (λ done. now_owned c.args.exam c.in_ok-dept.dept)
    (set_owner_result c.args.exam c.in_ok-dept.dept) c.args.office.now c.set_owner.new.self _ _
    c.in_ok-set_owner.ensures.runs c.in_ok-set_owner.ensures.leaves (λ none. none) refl)
