use Rattle.std.proofs.Common.{refl, subst, sym}
use Rattle.std.proofs.lemmas.Result.{on_ok_weaker}
use Rattle.sqlite.specs.Held.{state}
use Rattle.office_tables.specs.Migrating.{without_nights}
use Rattle.office_tables.specs.TablesHeld.{HoldsTables}
use Rattle.office_tables.proofs.Inside.{clean_before}
use Rattle.office_tables.proofs.MigrateLemmas.{begins}
use Rattle.office_tables.proofs.migrating.migrate.Goals as goal

pub returns-clause-makes : goal.returns-clause-makes
returns-clause-makes g c t is clean inside =
    let at_0 = state g.S.Store c.args.tx.now.conn.now in
    let at_1 = state g.S.Store c.create_night_tables.new.tx.conn.now in
    let at_2 = state g.S.Store c.fill_nights.new.tx.conn.now in
    let at_3 = state g.S.Store c.apply.new.tx.conn.now in
    let clean_2 = clean_before at_2 at_3 c.apply.ensures.within clean in
    let clean_1 = clean_before at_1 at_2 c.fill_nights.ensures.within clean_2 in
    let step_1 = c.in_ok-create_night_tables.ensures.makes (without_nights at_0.now.trees) refl refl
    clean_1 inside in
    let step_2 = c.in_ok-fill_nights.ensures.makes t clean_2 step_1.0 in
    on_ok_weaker c.apply.result
    (λ last. (
      last.0,
      λ before.
          let one = step_1.1 (begins at_0.now t before) in
          let two = step_2.1
          (record { before = at_0.now; represents = before; widened = one.0 }) in
          let three = last.1 _ two.0 in (
            subst (λ l. HoldsTables at_3.now (record t { meta = l })) (sym is) three.0,
            λ was. three.1 (two.1 (one.1 was)),
          ),
    ))
    (c.apply.ensures.makes clean step_2.0)
