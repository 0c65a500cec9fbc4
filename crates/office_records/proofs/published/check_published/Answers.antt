use Rattle.std.proofs.Common.{◌≡◌, ◌∙◌, Some, sym, ap}
use Rattle.std.specs.Prelude.{IfErr}
use Rattle.std.proofs.lemmas.Result.{IfErr-weaker, on_ok_weaker}
use Rattle.office_records.specs.FoundPublications.{publication, publication_from}
use Rattle.office_records.specs.SharesStored.{AreShared}
use Rattle.office_records.specs.declared.fault.RecordFault.TheVariants.{BadRows}
use Rattle.office_records.proofs.FoundLemmas.{shared_same}
use Rattle.office_records.proofs.published.check_published.Goals as goal

pub returns-in_ok-check_publication-in-Some-clause-none
    : goal.returns-in_ok-check_publication-in-Some-clause-none
returns-in_ok-check_publication-in-Some-clause-none c =
    let own = publication c.in-Some.timetable c.deref-in-Some.result.now in
    let is : publication_from c.args.published.now ≡ Some own
    = ap publication_from c.in-Some.is
    ∙ ap (λ l. Some (publication c.in-Some.timetable l)) (sym c.deref-in-Some.ensures.value) in
    let none : IfErr c.check_shares.result (λ e. e ≡ BadRows → AreShared c.args.instance.now (Some own)
    c.as_slice-students.result.now c.as_slice-parts.result.now → ⊥) = c.check_shares.ensures.none in
    IfErr-weaker c.check_shares.result _ _
    (λ e said bad valid shared. said bad (shared_same is (sym c.as_slice-students.ensures.value)
    (sym c.as_slice-parts.ensures.value) shared)) none

pub returns-in-None-clause-shared : goal.returns-in-None-clause-shared
returns-in-None-clause-shared c =
    on_ok_weaker c.check_no_shares.result
    (λ shared. shared_same (sym (ap publication_from c.in-None.is))
    c.as_slice-students.ensures.value c.as_slice-parts.ensures.value (shared c.args.instance.now))
    c.check_no_shares.ensures.are

pub returns-in-None-clause-none : goal.returns-in-None-clause-none
returns-in-None-clause-none c =
    IfErr-weaker c.check_no_shares.result _ _
    (λ e said bad valid shared. said c.args.instance.now
    (shared_same (ap publication_from c.in-None.is) (sym c.as_slice-students.ensures.value)
    (sym c.as_slice-parts.ensures.value) shared)) c.check_no_shares.ensures.none
