use Rattle.std.proofs.lemmas.Result.{on_ok_weaker}
use Rattle.sqlite.specs.Held.{state}
use Rattle.office_tables.proofs.Inside.{clean_before}
use Rattle.office_tables.proofs.MigrateLemmas.{nights_filled}
use Rattle.office_tables.proofs.migrating.fill_nights.Goals as goal

pub returns-clause-makes : goal.returns-clause-makes
returns-clause-makes g c t clean inside =
    let at_0 = state g.S.Store c.args.tx.now.conn.now in
    let at_1 = state g.S.Store c.run.new.tx.conn.now in
    let at_2 = state g.S.Store c.run-2.new.tx.conn.now in
    let at_3 = state g.S.Store c.run-3.new.tx.conn.now in
    let clean_2 = clean_before at_2 at_3 c.run-3.ensures.within clean in
    let clean_1 = clean_before at_1 at_2 c.run-2.ensures.within clean_2 in
    let first = c.in_ok-run.ensures.ran clean_1 inside in
    let second = c.in_ok-run-2.ensures.ran clean_2 first.inside in
    on_ok_weaker c.run-3.result
    (λ third. (
      third.inside,
      λ wide.
          let done = nights_filled t at_0 at_1 at_2 at_3 first.count second.count third.count wide
          first.executed second.executed third.executed in
          (done.0, λ _. done.1),
    ))
    (c.run-3.ensures.ran clean second.inside)
