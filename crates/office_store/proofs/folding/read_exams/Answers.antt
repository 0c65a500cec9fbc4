use Rattle.std.proofs.Common.{◌≡◌, ◌∙◌, ℕ, Vec, None, rules, sym}
use Rattle.std.proofs.lemmas.Result.{IfOk-weaker}
use Rattle.exam_model.specs.Changes.{exams_sat}
use Rattle.std.specs.declared.alloc.Global.{Global}
use Rattle.exam_lists.proofs.Results.{OnOk_any}
use Rattle.office_store.proofs.FoldingLemmas.{exams_are, rows_fit, rows_had, sat_up}
use Rattle.office_store.proofs.folding.read_exams.Goals as goal

pub returns-clause-exams : goal.returns-clause-exams
returns-clause-exams g c E had =
    let s = c.args.student in
    let rows = rows_had had c.get-number.ensures.number c.in-Some.is c.in-Ok.ensures.rows in
    IfOk-weaker c.exams_in_order.result _ _
    (λ (exams : Vec ℕ Global) are. sym (exams_are s c.deref.result.now exams.items are)
    ∙ exams_are s c.deref.result.now (exams_sat E s) (c.deref.ensures.value ∙ rows))
    c.exams_in_order.ensures.are

pub returns-clause-fault : goal.returns-clause-fault
returns-clause-fault g c E had =
    let s = c.args.student in
    let rows = rows_had had c.get-number.ensures.number c.in-Some.is c.in-Ok.ensures.rows in
    c.exams_in_order.ensures.fault (exams_sat E s) (c.deref.ensures.value ∙ rows) (sat_up E s)

-- over a clean disk the student's rows are valid
pub returns-in_default-found-clause-fault : goal.returns-in_default-found-clause-fault
returns-in_default-found-clause-fault g c E had =
    let none : c.in-Ok.found ≡ None = search rules in
    absurd (rows_fit c.get-number.result had none c.in-Ok.ensures.rows)

pub returns-clause-leaves : goal.returns-clause-leaves
returns-clause-leaves g c = record {
  read = search rules;
  same = OnOk_any c.exams_in_order.result
      (λ clean t represents _. c.in-Ok.ensures.leaves.same clean t represents);
}
