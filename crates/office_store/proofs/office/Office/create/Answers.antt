use Rattle.std.proofs.Common.{rules, refl, sym, ap, subst, Err, None, Ok, ◌≡◌}
use Rattle.sqlite.specs.Held.{state}
use Rattle.office_store.proofs.LeavingLemmas.{empty_represents, may_make}
use Rattle.office_tables.specs.Schema.{no_schema}
use Rattle.office_records.specs.Memory.{AreConsistent}
use Rattle.office_records.specs.FoundPublications.{publication_from}
use Rattle.office_model.specs.declared.fault.StoreFault.TheVariants.{Store}
use Rattle.office_store.proofs.TogetherLemmas.{fresh_together}
use Rattle.office_store.proofs.office.Office.create.Goals as goal

pub invariant_of-result : goal.invariant_of-result
invariant_of-result g c = (
  c.make_tables.ensures.rests,
  λ clean opened. (
    None,
    empty_represents
        ((c.in-Ok.ensures.done clean).related (record { schema_is = search rules; rows = tt })).0,
    record {
      session = sym c.new.ensures.kept;
      batches = sym c.new.ensures.batches;
      drafts = c.new.ensures.drafts;
      published = sym (ap publication_from c.new.ensures.published);
      priced = sym c.new.ensures.priced;
    },
  ),
  fresh_together (subst AreConsistent (sym c.new.ensures.kept) tt) c.new.ensures.drafts
      c.new.ensures.published,
)

pub returns-in-Ok-clause-made : goal.returns-in-Ok-clause-made
returns-in-Ok-clause-made g c clean =
    empty_represents
    ((c.in-Ok.ensures.done clean).related (record { schema_is = search rules; rows = tt })).0

pub returns-in-Ok-clause-leaves : goal.returns-in-Ok-clause-leaves
returns-in-Ok-clause-leaves g c = record {
  all_committed = search rules;
  undone = tt;
  survives = let bare : (state g.S.Store c.args.conn).now.schema ≡ no_schema = search rules in
      may_make g.S.Store c.args.conn c.make_tables.new.conn (Ok c.make_tables.new.conn) bare tt
      c.make_tables.ensures.survives c.make_tables.ensures.sound;
}

pub returns-in-Err-clause-leaves : goal.returns-in-Err-clause-leaves
returns-in-Err-clause-leaves g c = record {
  all_committed = search rules;
  undone = search rules;
  survives = let bare : (state g.S.Store c.args.conn).now.schema ≡ no_schema = search rules in
      may_make g.S.Store c.args.conn c.make_tables.new.conn (Err (Store, c.make_tables.new.conn))
      bare refl
      c.make_tables.ensures.survives c.make_tables.ensures.sound;
}
