use Rattle.std.proofs.Common.{arith, refl}
use Rattle.exam_draft.specs.declared.fault.EditFault.TheVariants.{NoSuch}
use Rattle.office_model.specs.Commands.{set_owner_result}
use Rattle.office_model.specs.declared.fault.Refusal.TheVariants.{Edit}
use Rattle.office_model.specs.declared.fault.StoreFault.TheVariants.{Refused}
use Rattle.office_store.proofs.CommandLemmas.{refuses, refuses_unloaded, rests}
use Rattle.office_store.proofs.LeavingLemmas.{done_next, undone_next}
use Rattle.office_store.proofs.OwnerLemmas.{no_exam_denied, owner_moves, owner_remembers}
use Rattle.office_store.proofs.office.Office.set_owner.Goals as goal

pub returns-in_default-clause-runs : goal.returns-in_default-clause-runs
returns-in_default-clause-runs g c =
    refuses_unloaded c.self.view_is c.self.invariant.1 c.in_ok-check_open.ensures.leaves
    (set_owner_result c.args.exam c.args.dept) c.in_default.is refl

pub returns-then-get-exams-clause-runs : goal.returns-then-get-exams-clause-runs
returns-then-get-exams-clause-runs g c =
    refuses c.self.view_is c.self.invariant.1 c.in_ok-check_open.ensures.leaves
    (set_owner_result c.args.exam c.args.dept) (Refused (Edit NoSuch))
    (λ _. no_exam_denied c.args.exam c.args.dept c.in-Some.is
    (omega (arith, c.exams.ensures.count, c.if-get-exams.true)))

pub invariant_of-self-2 : goal.invariant_of-self-2
invariant_of-self-2 g c = (
  c.in_ok-put.ensures.rests,
  rests c.self.invariant.1 c.put.ensures
      (λ _. owner_moves c.args.exam c.args.dept c.in-Some.is
      (omega (arith, c.exams.ensures.count, c.if-get-exams.false, c.get.ensures)) c.requires.dept
      c.get-exam.ensures c.new_owner.ensures)
      c.in_ok-put.ensures.done
      (λ _. owner_remembers c.args.exam c.args.dept c.in-Some.is
      (omega (arith, c.exams.ensures.count, c.if-get-exams.false, c.get.ensures))),
  c.self.invariant.2,
)

pub returns : goal.returns
returns g c =
    done_next c.self.view_is c.self.invariant.1 c.in_ok-check_open.ensures.leaves c.put.ensures
    (λ _. owner_moves c.args.exam c.args.dept c.in-Some.is
    (omega (arith, c.exams.ensures.count, c.if-get-exams.false, c.get.ensures)) c.requires.dept
    c.get-exam.ensures c.new_owner.ensures) c.in_ok-put.ensures.done

pub returns-in_err-put : goal.returns-in_err-put
returns-in_err-put g c =
    undone_next c.self.view_is c.self.invariant.1 c.in_ok-check_open.ensures.leaves c.put.ensures
    (λ _. owner_moves c.args.exam c.args.dept c.in-Some.is
    (omega (arith, c.exams.ensures.count, c.if-get-exams.false, c.get.ensures)) c.requires.dept
    c.get-exam.ensures c.new_owner.ensures)
    c.in_err-put.ensures.undone c.from_residual-in_err-put.ensures.1
