use Rattle.std.proofs.Common.{◌≡◌, ◌∙◌, Ok, Some, None, ap, rules, sym, subst}
use Rattle.sqlite.specs.Held.{state}
use Rattle.office_model.specs.Batches.{batch_enrolled, batch_of_number}
use Rattle.office_store.specs.NewBatches.{IsRowOf}
use Rattle.office_store.specs.Running.{CommandOutcome, Represents}
use Rattle.office_store.proofs.CommandLemmas.{stays_by}
use Rattle.office_store.proofs.KeptBatchLemmas.{again_does, batch_read, no_row_of}
use Rattle.office_store.proofs.RunLemmas.{does_now}
use Rattle.office_store.proofs.LeavingLemmas.{leaves_then}
use Rattle.office_store.proofs.office.Office.enrol_batch.Goals as goal

-- a number that is kept
pub returns-in-Some-clause-runs : goal.returns-in-Some-clause-runs
returns-in-Some-clause-runs g c clean o now =
    let mid = c.ask.new.self in
    let still = stays_by g.S.Store c.args.self.now mid c.in_ok-kept.ensures.leaves in
    let opened = (c.in_ok-kept.ensures.leaves.all_committed clean).0 in
    let here = still clean o now opened in
    let found : c.in_ok-kept.kept ≡ Some c.in-Some.row = search rules in
    does_now (batch_enrolled c.args.number c.args.text.now o) o (Represents (state g.S.Store mid))
    c.first_answer.result
    (subst (CommandOutcome (batch_enrolled c.args.number c.args.text.now o) o (λ new. new ≡ o))
    (sym c.first_answer.ensures)
    (again_does o c.args.number c.args.text.now _ c.in-Some.row c.in-Ok.ensures.exact
    (subst (IsRowOf (batch_of_number o c.args.number)) found
    (batch_read here.held o c.args.number _ here.represents here.office
    (c.in_ok-kept.ensures.rows clean o here)))))
    (λ _. here)

-- a number that isn't kept
pub returns-clause-runs : goal.returns-clause-runs
returns-clause-runs g c clean o now =
    c.enrol_new.ensures.runs clean o
    (stays_by g.S.Store c.args.self.now c.ask.new.self c.in_ok-kept.ensures.leaves
    (c.enrol_new.ensures.leaves.clean clean) o now)

-- nothing had changed before
pub enrol_new-requires : goal.enrol_new-requires
enrol_new-requires g c = record {
  number = c.requires.number;
  spelled = c.in-Ok.ensures.exact ∙ ap Ok (sym c.deref.ensures.value);
  is_new = λ clean o kept.
      let none : c.in_ok-kept.kept ≡ None = search rules in
      no_row_of o c.args.number
      (subst (IsRowOf (batch_of_number o c.args.number)) none
      (batch_read kept.held o c.args.number _ kept.represents kept.office
      (c.in_ok-kept.ensures.rows clean o kept)));
  all_committed = λ clean. c.in_ok-kept.ensures.leaves.all_committed clean;
}

pub returns-clause-leaves : goal.returns-clause-leaves
returns-clause-leaves g c =
    leaves_then c.in_ok-kept.ensures.leaves c.enrol_new.ensures.leaves
