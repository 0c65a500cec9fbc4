use Rattle.std.proofs.Common.{◌≡◌, Ok, ap, refl, subst, sym, ◌∙◌}
use Rattle.std.specs.Prelude.{IfSome, is_some}
use Rattle.office_model.specs.declared.fault.StoreFault.TheVariants.{NoDraft}
use Rattle.office_store.specs.Judging.{draft_judged, plain_list}
use Rattle.office_store.specs.Running.{CommandRan}
use Rattle.office_store.proofs.CommandLemmas.{refuses, refuses_unloaded, shows}
use Rattle.office_store.proofs.RememberingLemmas.{still_memory}
use Rattle.office_store.proofs.StoredLemmas.{in_memory_judged, none_denied}
use Rattle.office_store.proofs.TogetherLemmas.{few_right, fits_in, judged_together}
use Rattle.office_store.proofs.office.Office.breaches.Goals as goal

pub returns-in_default-clause-runs : goal.returns-in_default-clause-runs
returns-in_default-clause-runs g c =
    refuses_unloaded c.self.view_is c.self.invariant.1 c.in_ok-check_open.ensures.leaves
    (draft_judged c.args.number) c.in_default.is refl

pub returns-in_default-draft-clause-runs : goal.returns-in_default-draft-clause-runs
returns-in_default-draft-clause-runs g c =
    refuses c.self.view_is c.self.invariant.1 c.in_ok-check_open.ensures.leaves (draft_judged c.args.number)
    NoDraft (λ _. none_denied _ c.args.number (ap is_some c.in-Some.is) c.in_default-draft.ensures.none
    (λ r none. rw none refl))

pub breaches-requires : goal.breaches-requires
breaches-requires g c =
    fits_in c.self.invariant.2 c.in-Some.is c.args.number c.in-Some-draft.ensures.some

pub returns-in-Some-judged-clause-runs : goal.returns-in-Some-judged-clause-runs
returns-in-Some-judged-clause-runs g c =
    shows c.self.view_is c.self.invariant.1 c.in_ok-check_open.ensures.leaves (draft_judged c.args.number)
    (plain_list (Ok c.in_ok-copy.copy))
    (in_memory_judged c.args.number c.in-Some-draft.ensures.some c.in-Some.is
    (c.in_ok-copy.ensures.items ∙ c.deref.ensures.value
    ∙ c.self.invariant.2.judged c.in-Some.instance c.in-Some.enrolments c.in-Some.is
    c.args.number c.in-Some-judged.found.now c.in-Some-judged.ensures
    c.in-Some-draft.draft.now c.in-Some-draft.ensures.some))

pub returns-clause-runs : goal.returns-clause-runs
returns-clause-runs g c =
    subst (λ h. CommandRan g.S.Store (draft_judged c.args.number) c.args.self.now h
    (plain_list (Ok c.in_ok-breaches.breaches))) (sym c.self.view_is)
    (shows c.self.view_is c.self.invariant.1 c.in_ok-check_open.ensures.leaves (draft_judged c.args.number)
    (plain_list (Ok c.in_ok-breaches.breaches))
    (in_memory_judged c.args.number c.in-Some-draft.ensures.some c.in-Some.is
    c.in_ok-breaches.ensures.listed))

pub invariant_of-self : goal.invariant_of-self
invariant_of-self g c = (
  c.self.invariant.0,
  λ clean opened.
      let here = c.self.invariant.1 clean opened in
      (here.0, here.1, still_memory here.2 c.keep_breaches.ensures.put c.keep_breaches.ensures.beyond),
  judged_together c.self.invariant.2
      (few_right c.self.inside.memory c.args.number c.in-Some.is c.in-Some-draft.ensures.some
      c.in_ok-breaches.ensures.listed c.few_breaches-few.result
      (subst (λ l. IfSome c.few_breaches-few.result (λ v. v.items ≡ l)) c.deref-2.ensures.value
      c.few_breaches-few.ensures))
      c.keep_breaches.ensures.put c.keep_breaches.ensures.beyond,
)
