use Rattle.std.proofs.Common.{◌≡◌, ◌≤◌, Some, length, arith, sym, subst}
use Rattle.std.proofs.lemmas.Bool.Decides.{nat_tests}
use Rattle.office_records.specs.SharesStored.{AreShared}
use Rattle.office_store.specs.Publications.{shares_in}
use Rattle.office_store.proofs.PublishedReadLemmas.{shares_good, shares_none, shares_some, returned_fault}
use Rattle.office_store.proofs.publications.shared_of.Goals as goal

pub returns-then-is_empty : goal.returns-then-is_empty
returns-then-is_empty c = record {
  meaning = λ r is same shared.
      let found = c.args.found.now in
      let none : length found.parts.items ≡ 0
      = grind (arith, nat_tests, c.if-is_empty.ensures, found.parts.ok.0) in
      shares_none is shared none;
}

pub returns-in_err-shares : goal.returns-in_err-shares
returns-in_err-shares c = record {
  meaning = λ r is same shared.
      let found = c.args.found.now in
      let some : 1 ≤ length found.parts.items
      = grind (arith, nat_tests, c.if-is_empty.ensures, found.parts.ok.0) in
      returned_fault (shares_in (Some r)) c.from_residual.result c.in_err-shares.field-0.0
      c.from_residual.ensures.1
      (λ bad. shares_good r c.args.instance.now is same c.deref.result.now c.deref-2.result.now
      (subst (λ l. AreShared r.session r.published l c.deref-2.result.now)
      (sym c.deref.ensures.value)
      (subst (λ l. AreShared r.session r.published found.students.items l)
      (sym c.deref-2.ensures.value) shared))
      (subst (λ l. 1 ≤ length l) (sym c.deref-2.ensures.value) some)
      (c.in_err-shares.ensures.none bad));
}

pub returns : goal.returns
returns c = record {
  meaning = λ r is same shared.
      let found = c.args.found.now in
      let some : 1 ≤ length found.parts.items
      = grind (arith, nat_tests, c.if-is_empty.ensures, found.parts.ok.0) in
      shares_some r c.args.instance.now is same c.deref.result.now c.deref-2.result.now
      (subst (λ l. AreShared r.session r.published l c.deref-2.result.now)
      (sym c.deref.ensures.value)
      (subst (λ l. AreShared r.session r.published found.students.items l)
      (sym c.deref-2.ensures.value) shared))
      (subst (λ l. 1 ≤ length l) (sym c.deref-2.ensures.value) some)
      c.in_ok-shares.shares c.in_ok-shares.ensures.only;
}
