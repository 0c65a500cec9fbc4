use Rattle.std.proofs.Common.{rules, ◌≡◌, Err, refl, sym, subst}
use Rattle.office_model.specs.Batches.{batch_enrolled}
use Rattle.office_store.specs.Running.{CommandRan}
use Rattle.office_records.specs.Memory.{AreConsistent}
use Rattle.office_store.proofs.BatchPuttingLemmas.{enrol_denied, enrol_moves, enrol_remembers}
use Rattle.office_store.proofs.CommandLemmas.{refuses, refuses_unloaded, rests, seen}
use Rattle.office_store.proofs.TogetherLemmas.{renewed_together}
use Rattle.office_store.proofs.LeavingLemmas.{done_next, leaves_itself, undone_next}
use Rattle.office_store.proofs.office.Office.enrol_new.Goals as goal

pub returns-in_default-clause-runs : goal.returns-in_default-clause-runs
returns-in_default-clause-runs g c =
    refuses_unloaded c.self.view_is c.self.invariant.1
    (leaves_itself g.S.Store c.args.self.now c.requires.all_committed)
    (batch_enrolled c.args.number c.args.text.now) c.in_default.is (rw c.requires.spelled refl)

-- the batch is refused
pub returns-in_err-new-clause-runs : goal.returns-in_err-new-clause-runs
returns-in_err-new-clause-runs g c =
    let start = c.args.self.now in
    let command = batch_enrolled c.args.number c.args.text.now in
    let fault = c.in_err-new.field-0.0 in
    let is : c.from_residual.result ≡ Err fault = search rules in
    subst (CommandRan g.S.Store command start start) (sym is)
    (refuses c.self.view_is c.self.invariant.1 (leaves_itself g.S.Store start c.requires.all_committed)
    command fault
    (λ k. enrol_denied c.args.number c.args.text.now c.requires.spelled c.self.inside.memory
    c.in-Some.is (c.requires.is_new k) fault (λ r here is memory. c.in_err-new.ensures.enrols _ r here is memory)))

pub invariant_of-self-2 : goal.invariant_of-self-2
invariant_of-self-2 g c =
    let I = c.in-Some.instance in
    let E = c.in-Some.enrolments in
    let new = c.in_ok-new.new in
    let renewed = c.apply_batch.ensures.renewed I E c.in-Some.is in (
      c.in_ok-put_batch.ensures.rests,
      rests c.self.invariant.1 c.put_batch.ensures
          (λ k. enrol_moves c.args.number c.args.text.now c.requires.spelled c.self.inside.memory
          c.in-Some.is (seen g.S.Store c.self.view_is c.requires.is_new (c.put_batch.ensures.clean k))
          c.requires.number c.lines_are_counted.ensures.counted c.lines_are_counted.ensures.few
          c.batch_leaves_an_office.ensures
          (λ r here is memory. c.in_ok-new.ensures.enrols _ r here is memory))
          c.in_ok-put_batch.ensures.done
          (λ k. enrol_remembers c.args.number c.args.text.now c.requires.spelled c.self.inside.memory
          c.in-Some.is (seen g.S.Store c.self.view_is c.requires.is_new (c.put_batch.ensures.clean k))
          c.requires.number c.lines_are_counted.ensures.counted c.lines_are_counted.ensures.few
          c.batch_leaves_an_office.ensures
          (λ r here is memory. c.in_ok-new.ensures.enrols _ r here is memory)
          c.apply_batch.ensures.batches c.apply_batch.ensures.published c.apply_batch.ensures.priced renewed
          c.in_ok-new.ensures.rescored),
      renewed_together c.self.invariant.2 c.in-Some.is new.enrolments new.rescored renewed
          c.apply_batch.ensures.published c.in_ok-new.ensures.exams c.in_ok-new.ensures.suited,
    )

pub new_batch-requires : goal.new_batch-requires
new_batch-requires g c = record {
  exams = subst AreConsistent c.in-Some.is c.self.invariant.2.exams;
  suited = c.self.invariant.2.drafts c.in-Some.instance c.in-Some.enrolments c.in-Some.is;
  lines = c.lines_are_counted.ensures.few c.args.text.now c.args.changes.now c.requires.spelled;
}

pub put_batch-requires : goal.put_batch-requires
put_batch-requires g c = record {
  rests = c.self.invariant.0;
  small = c.in_ok-new.ensures.small;
}

pub returns : goal.returns
returns g c =
    done_next c.self.view_is c.self.invariant.1
    (leaves_itself g.S.Store c.args.self.now c.requires.all_committed) c.put_batch.ensures
    (λ k. enrol_moves c.args.number c.args.text.now c.requires.spelled c.self.inside.memory
    c.in-Some.is (seen g.S.Store c.self.view_is c.requires.is_new (c.put_batch.ensures.clean k)) c.requires.number
    c.lines_are_counted.ensures.counted c.lines_are_counted.ensures.few c.batch_leaves_an_office.ensures
    (λ r here is memory. c.in_ok-new.ensures.enrols _ r here is memory)) c.in_ok-put_batch.ensures.done

pub returns-in_err-put_batch : goal.returns-in_err-put_batch
returns-in_err-put_batch g c =
    undone_next c.self.view_is c.self.invariant.1
    (leaves_itself g.S.Store c.args.self.now c.requires.all_committed) c.put_batch.ensures
    (λ k. enrol_moves c.args.number c.args.text.now c.requires.spelled c.self.inside.memory
    c.in-Some.is (seen g.S.Store c.self.view_is c.requires.is_new (c.put_batch.ensures.clean k)) c.requires.number
    c.lines_are_counted.ensures.counted c.lines_are_counted.ensures.few c.batch_leaves_an_office.ensures
    (λ r here is memory. c.in_ok-new.ensures.enrols _ r here is memory))
    c.in_err-put_batch.ensures.undone c.from_residual-in_err-put_batch.ensures.1
