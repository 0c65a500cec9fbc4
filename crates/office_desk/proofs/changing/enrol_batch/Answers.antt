use Rattle.std.proofs.Common.{◌≡◌, Err, refl, rules}
use Rattle.office_policy.specs.CommandBodies.{plain_text}
use Rattle.office_model.specs.Answers.{now_enrolled}
use Rattle.office_model.specs.Batches.{batch_enrolled}
use Rattle.office_model.specs.Step.{outcome}
use Rattle.office_desk.proofs.AnswerLemmas.{body_performed, fault_changed, ok_changed, text_faulty}
use Rattle.office_desk.proofs.changing.enrol_batch.Goals as goal

pub returns-in_err-text : goal.returns-in_err-text
returns-in_err-text g c caller =
    let is : c.from_residual.result ≡ Err c.in_err-text.field-0.0 = search rules in
    body_performed g.S.Store (λ office bytes. outcome (now_enrolled c.args.number) office
    (batch_enrolled c.args.number bytes office))
    (plain_text c.args.body) c.args.office.now _ _ is (text_faulty _ _ c.in_err-text.ensures)

pub returns-in_err-counts : goal.returns-in_err-counts
returns-in_err-counts g c caller =
    rw c.in_ok-text.ensures
    (fault_changed g.S.Store (now_enrolled c.args.number)
    (batch_enrolled c.args.number c.in_ok-text.text.now) c.args.office.now c.enrol_batch.new.self _ _
    c.in_err-counts.ensures.runs c.in_err-counts.ensures.leaves
    c.from_residual-in_err-counts.ensures.1)

pub returns : goal.returns
returns g c caller =
    rw c.in_ok-text.ensures
    (ok_changed g.S.Store (now_enrolled c.args.number)
    (batch_enrolled c.args.number c.in_ok-text.text.now) c.args.office.now c.enrol_batch.new.self _ _
    c.in_ok-counts.ensures.runs c.in_ok-counts.ensures.leaves (λ none. none) refl)
