use Rattle.std.proofs.Common.{◌≡◌, sym, subst, subst₂}
use Rattle.office_records.specs.Publications.{ArePublicationRows}
use Rattle.office_records.specs.FoundPublications.{ArePublished, publication_from}
use Rattle.office_records.specs.SharesStored.{AreShared}
use Rattle.office_records.proofs.ResultLemmas.{passed_on}
use Rattle.office_records.proofs.published.published_of.Goals as goal

pub returns-in_err-check_published-clause-none : goal.returns-in_err-check_published-clause-none
returns-in_err-check_published-clause-none c =
    let I = c.args.instance.now in
    let found = c.args.found.now in
    let own = publication_from c.in_ok-published.published in
    passed_on c.from_residual-in_err-check_published.result c.in_err-check_published.field-0.0 _
    c.from_residual-in_err-check_published.ensures.1
    (λ bad published are.
    let same : own ≡ published
    = c.in_ok-published.ensures.only published
    (subst₂ (λ p s. ArePublicationRows found.meta.published p s published)
    (sym c.deref.ensures.value) (sym c.deref-2.ensures.value) are.rows) are.is in
    c.in_err-check_published.ensures.none bad (subst (ArePublished I) (sym same) are.is)
    (subst (λ o. AreShared I o found.student_shares.items found.part_shares.items) (sym same)
    are.shared))

pub returns-clause-are : goal.returns-clause-are
returns-clause-are c =
    let own = publication_from c.in_ok-published.published in
    record {
      rows = subst₂ (λ p s. ArePublicationRows c.args.found.now.meta.published p s own)
          c.deref.ensures.value c.deref-2.ensures.value c.in_ok-published.ensures.rows;
      is = c.in_ok-check_published.ensures.valid;
      shared = c.in_ok-check_published.ensures.shared;
    }
