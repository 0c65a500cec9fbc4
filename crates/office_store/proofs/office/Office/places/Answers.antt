use Rattle.std.specs.Prelude.{is_some}
use Rattle.std.proofs.Common.{Ok, ap, refl, arith}
use Rattle.std.proofs.lemmas.Bool.Decides.{nat_tests}
use Rattle.exam_draft.specs.declared.fault.EditFault.TheVariants.{NoSuch}
use Rattle.office_model.specs.declared.fault.Refusal.TheVariants as refusal
use Rattle.office_model.specs.Step.{draft_places_shown}
use Rattle.office_model.specs.declared.fault.StoreFault.TheVariants.{NoDraft, Refused}
use Rattle.office_store.specs.Judging.{plain_list}
use Rattle.office_store.proofs.CommandLemmas.{refuses, refuses_unloaded, shows}
use Rattle.office_store.proofs.StoredLemmas.{in_memory_listed, missing_listed, none_denied, scored_in_memory}
use Rattle.office_store.proofs.TogetherLemmas.{fits_in}
use Rattle.office_store.proofs.office.Office.places.Goals as goal

pub returns-in_default-clause-runs : goal.returns-in_default-clause-runs
returns-in_default-clause-runs g c =
    refuses_unloaded c.self.view_is c.self.invariant.1 c.in_ok-check_open.ensures.leaves
    (draft_places_shown c.args.number c.args.exam) c.in_default.is refl

pub returns-in_default-draft-clause-runs : goal.returns-in_default-draft-clause-runs
returns-in_default-draft-clause-runs g c =
    refuses c.self.view_is c.self.invariant.1 c.in_ok-check_open.ensures.leaves
    (draft_places_shown c.args.number c.args.exam) NoDraft
    (λ _. none_denied _ c.args.number (ap is_some c.in-Some.is) c.in_default-draft.ensures.none
    (λ r none. rw none refl))

pub places_if_scored-requires-clause-fits : goal.places_if_scored-requires-clause-fits
places_if_scored-requires-clause-fits g c =
    fits_in c.self.invariant.2 c.in-Some.is c.args.number c.in-Some-draft.ensures.some

pub places_if_scored-requires-clause-exists : goal.places_if_scored-requires-clause-exists
places_if_scored-requires-clause-exists g c = omega (arith, c.exams.ensures.count, c.get.ensures)

pub returns-then-get-exams-clause-runs : goal.returns-then-get-exams-clause-runs
returns-then-get-exams-clause-runs g c =
    refuses c.self.view_is c.self.invariant.1 c.in_ok-check_open.ensures.leaves
    (draft_places_shown c.args.number c.args.exam) (Refused (refusal.Edit NoSuch))
    (λ _. missing_listed c.args.number c.in-Some-draft.ensures.some c.in-Some.is c.args.exam
    (grind (arith, nat_tests, c.exams.ensures.count, c.get.ensures)))

pub returns-clause-runs : goal.returns-clause-runs
returns-clause-runs g c =
    shows c.self.view_is c.self.invariant.1 c.in_ok-check_open.ensures.leaves
    (draft_places_shown c.args.number c.args.exam) (plain_list (Ok c.in_ok-rows.rows))
    (λ o is. in_memory_listed c.args.number c.in-Some-draft.ensures.some c.in-Some.is c.args.exam
    (grind (arith, nat_tests, c.exams.ensures.count, c.get.ensures))
    (c.in_ok-rows.ensures (scored_in_memory c.args.number c.in-Some-draft.ensures.some c.in-Some.is o is))
    o is)
