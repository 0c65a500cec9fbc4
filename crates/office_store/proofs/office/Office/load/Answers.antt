use Rattle.std.proofs.Common.{rules, ◌∙◌, subst, sym}
use Rattle.exam_model.specs.Enrolments.{Enrolled}
use Rattle.exam_model.specs.Instance.{Session}
use Rattle.office_model.specs.Loading.{load_session}
use Rattle.office_model.specs.declared.fault.StoreFault.TheVariants.{Loaded}
use Rattle.office_model.proofs.RecordLemmas.{are_enrolled}
use Rattle.office_records.specs.Memory.{AreConsistent}
use Rattle.office_store.proofs.CommandLemmas.{refuses, rests}
use Rattle.office_store.proofs.LeavingLemmas.{done_next, undone_next}
use Rattle.office_store.proofs.LoadLemmas.{as_many, load_denied, load_moves, load_remembers}
use Rattle.office_store.proofs.TogetherLemmas.{fresh_together}
use Rattle.office_store.proofs.office.Office.load.Goals as goal

pub returns-then-is_some-clause-runs : goal.returns-then-is_some-clause-runs
returns-then-is_some-clause-runs g c =
    refuses c.self.view_is c.self.invariant.1 c.in_ok-check_open.ensures.leaves
    (load_session c.args.text.now) Loaded
    (λ _. load_denied c.args.text.now c.in-Ok.ensures.exact (search rules))

pub invariant_of-self-2 : goal.invariant_of-self-2
invariant_of-self-2 g c =
    let I : Session = c.in-Ok.read.0 in
    let E : Enrolled = c.in-Ok.read.1 in
    let as_many = as_many c.args.text.now I E c.in-Ok.ensures.reading in (
      c.in_ok-put.ensures.rests,
      rests c.self.invariant.1 c.put.ensures
          (λ _. load_moves c.args.text.now I E c.in-Ok.ensures.exact c.counts_of-loaded.ensures.counts
          (search rules) (c.deref.ensures.value ∙ c.in_ok-stored.ensures.text) c.deref-2.ensures.value
          c.in_ok-rows.ensures c.counts_of-loaded.ensures.instance
          (are_enrolled I E c.counts_of-loaded.ensures.enrolments as_many))
          c.in_ok-put.ensures.done
          (λ _. load_remembers c.args.text.now I E c.in-Ok.ensures.exact
          c.counts_of-loaded.ensures.counts (search rules) c.of_session.ensures.kept
          c.of_session.ensures.batches c.of_session.ensures.drafts
          c.of_session.ensures.published c.of_session.ensures.priced),
      fresh_together (subst AreConsistent (sym c.of_session.ensures.kept) as_many)
          c.of_session.ensures.drafts c.of_session.ensures.published,
    )

pub returns : goal.returns
returns g c =
    let I : Session = c.in-Ok.read.0 in
    let E : Enrolled = c.in-Ok.read.1 in
    let next = done_next c.self.view_is c.self.invariant.1 c.in_ok-check_open.ensures.leaves c.put.ensures
    (λ _. load_moves c.args.text.now I E c.in-Ok.ensures.exact c.counts_of-loaded.ensures.counts
    (search rules) (c.deref.ensures.value ∙ c.in_ok-stored.ensures.text) c.deref-2.ensures.value
    c.in_ok-rows.ensures c.counts_of-loaded.ensures.instance
    (are_enrolled I E c.counts_of-loaded.ensures.enrolments
    (as_many c.args.text.now I E c.in-Ok.ensures.reading)))
    c.in_ok-put.ensures.done in
    record {
      runs = next.runs;
      counts = ((I, E), c.in-Ok.ensures.exact, c.counts_of-loaded.ensures.counts);
      first = tt;
      leaves = next.leaves;
    }

pub returns-in_err-put : goal.returns-in_err-put
returns-in_err-put g c =
    let I : Session = c.in-Ok.read.0 in
    let E : Enrolled = c.in-Ok.read.1 in
    let next = undone_next c.self.view_is c.self.invariant.1 c.in_ok-check_open.ensures.leaves c.put.ensures
    (λ _. load_moves c.args.text.now I E c.in-Ok.ensures.exact c.counts_of-loaded.ensures.counts
    (search rules) (c.deref.ensures.value ∙ c.in_ok-stored.ensures.text) c.deref-2.ensures.value
    c.in_ok-rows.ensures c.counts_of-loaded.ensures.instance
    (are_enrolled I E c.counts_of-loaded.ensures.enrolments
    (as_many c.args.text.now I E c.in-Ok.ensures.reading)))
    c.in_err-put.ensures.undone c.from_residual-in_err-put.ensures.1 in
    record { runs = next.runs; counts = search rules; first = search rules; leaves = next.leaves }
