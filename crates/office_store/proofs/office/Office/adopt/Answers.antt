use Rattle.std.proofs.Common.{◌≡◌, ◌∙◌, ◌⊎◌, inr, refl, Err, Ok, rules, subst, sym}
use Rattle.exam_lists.proofs.Booleans.{false_from_not}
use Rattle.office_model.specs.declared.fault.StoreFault.TheVariants.{Store}
use Rattle.sqlite.specs.Held.{state}
use Rattle.sqlite.specs.State.{IsUnchanged}
use Rattle.office_tables.specs.declared.version.Version.TheVariants.{Two}
use Rattle.office_store.proofs.AdoptLemmas.{brought_clean, brought_committed, brought_rests, brought_same, brought_survives, brought_tables, brought_undone, awake_still, held_still, may_migrate, taken_over, undone_after, undone_reading}
use Rattle.office_tables.proofs.AdoptLemmas.{one_version}
use Rattle.office_store.proofs.office.Office.adopt.Goals as goal

pub migrate_if_old-requires : goal.migrate_if_old-requires
migrate_if_old-requires g c = record {
  rests = c.in-Ok.ensures.leaves.mode
      (false_from_not _ _ c.is_autocommit.ensures.value c.if-not-is_autocommit.false);
}

-- what was found is represented in version 2
pub returns-in-Ok-migrate_if_old-clause-adopted : goal.returns-in-Ok-migrate_if_old-clause-adopted
returns-in-Ok-migrate_if_old-clause-adopted g c clean =
    let old = c.args.conn in
    let clean_mid = brought_clean g.S.Store _ _ _ c.migrate_if_old.result _ c.migrate_if_old.ensures clean in
    let is = c.in-Ok.ensures.kept clean_mid in
    taken_over (state g.S.Store old).now _ _ _ is
    (brought_tables g.S.Store _ _ _ _ _ c.in-Ok-migrate_if_old.ensures clean is.batches
    (held_still g.S.Store old c.found_office.new.conn _ _ (c.in-Ok.ensures.leaves.same clean_mid tt)
    is.tables))

pub invariant_of-result : goal.invariant_of-result
invariant_of-result g c = (
  brought_rests g.S.Store _ _ _ c.migrate_if_old.result _ c.migrate_if_old.ensures
      (c.in-Ok.ensures.leaves.mode
      (false_from_not _ _ c.is_autocommit.ensures.value c.if-not-is_autocommit.false)),
  λ clean opened.
      let old = c.args.conn in
      let clean_mid = brought_clean g.S.Store _ _ _ c.migrate_if_old.result _ c.migrate_if_old.ensures clean in
      let is = c.in-Ok.ensures.kept clean_mid in
      let taken = taken_over (state g.S.Store old).now _ _ _ is
      (brought_tables g.S.Store _ _ _ _ _ c.in-Ok-migrate_if_old.ensures clean is.batches
      (held_still g.S.Store old c.found_office.new.conn _ _ (c.in-Ok.ensures.leaves.same clean_mid tt)
      is.tables))
      in
      (is.office, taken.represents is.office (_, is.kept, is.weighs), is.in_memory),
  c.in-Ok.ensures.together,
)

pub returns-in-Ok-migrate_if_old-clause-same : goal.returns-in-Ok-migrate_if_old-clause-same
returns-in-Ok-migrate_if_old-clause-same g c clean schema =
    let old = c.args.conn in
    let clean_mid = brought_clean g.S.Store _ _ _ c.migrate_if_old.result _ c.migrate_if_old.ensures clean in
    let is = c.in-Ok.ensures.kept clean_mid in
    let version = one_version _ Two (sym is.tables.schema ∙ schema) in
    subst (λ h. (h ≡ old) ⊎ IsUnchanged (state g.S.Store old) (state g.S.Store h))
    (sym (brought_same g.S.Store _ _ _ _ _ c.in-Ok-migrate_if_old.ensures version))
    (c.in-Ok.ensures.leaves.same clean_mid tt)

pub returns-in-Ok-migrate_if_old-clause-leaves : goal.returns-in-Ok-migrate_if_old-clause-leaves
returns-in-Ok-migrate_if_old-clause-leaves g c = record {
  all_committed = λ clean.
      let clean_mid = brought_clean g.S.Store _ _ _ c.migrate_if_old.result _ c.migrate_if_old.ensures clean in
      brought_committed g.S.Store _ _ _ _ _ c.in-Ok-migrate_if_old.ensures clean
      (awake_still g.S.Store c.args.conn c.found_office.new.conn (c.in-Ok.ensures.leaves.same clean_mid tt)
      (c.is_autocommit.ensures.settled c.if-not-is_autocommit.false)
      (c.in-Ok.ensures.open clean_mid));
  undone = tt;
  survives = may_migrate g.S.Store c.args.conn c.found_office.new.conn c.migrate_if_old.new.conn _ _
      (Ok c.migrate_if_old.new.conn) tt
      (brought_clean g.S.Store _ _ _ c.migrate_if_old.result _ c.migrate_if_old.ensures)
      (λ k. c.in-Ok.ensures.leaves.same k tt) c.in-Ok.ensures.open c.in-Ok.ensures.kept
      c.found_office.ensures.leaves.survives
      (brought_survives g.S.Store _ _ _ c.migrate_if_old.result _ c.migrate_if_old.ensures);
}

pub returns-clause-leaves : goal.returns-clause-leaves
returns-clause-leaves g c = record {
  all_committed = search rules;
  undone = inr (λ clean. undone_after g.S.Store c.args.conn c.found_office.new.conn
      c.migrate_if_old.new.conn
      (c.in-Ok.ensures.leaves.same
      (brought_clean g.S.Store _ _ _ c.migrate_if_old.result _ c.migrate_if_old.ensures clean) tt)
      (brought_undone g.S.Store _ _ _ _ _ c.in-Err-migrate_if_old.ensures clean));
  survives = may_migrate g.S.Store c.args.conn c.found_office.new.conn c.migrate_if_old.new.conn _ _
      (Err (Store, c.migrate_if_old.new.conn)) refl
      (brought_clean g.S.Store _ _ _ c.migrate_if_old.result _ c.migrate_if_old.ensures)
      (λ k. c.in-Ok.ensures.leaves.same k tt) c.in-Ok.ensures.open c.in-Ok.ensures.kept
      c.found_office.ensures.leaves.survives
      (brought_survives g.S.Store _ _ _ c.migrate_if_old.result _ c.migrate_if_old.ensures);
}

pub returns-in-Err-clause-no_office : goal.returns-in-Err-clause-no_office
returns-in-Err-clause-no_office g c bad clean o holds = c.in-Err.ensures.none clean bad o holds

pub returns-in-Err-clause-leaves : goal.returns-in-Err-clause-leaves
returns-in-Err-clause-leaves g c = record {
  all_committed = search rules;
  undone = inr (λ clean. undone_reading (state g.S.Store c.args.conn)
      (state g.S.Store c.found_office.new.conn)
      (c.is_autocommit.ensures.settled c.if-not-is_autocommit.false)
      (c.in-Err.ensures.leaves.kept clean tt));
  survives = search rules;
}
