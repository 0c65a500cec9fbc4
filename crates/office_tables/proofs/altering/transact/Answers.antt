use Rattle.std.proofs.Common.{rules, ◌≡◌, subst}
use Rattle.office_tables.specs.Alterations.{TablesChanged, TransactionRan}
use Rattle.office_tables.proofs.TurnLemmas.{changed_rows, done_by, survives_by}
use Rattle.office_tables.proofs.altering.transact.Goals as goal

pub returns : goal.returns
returns g c =
    let old = c.args.conn.now in
    let begun = c.transaction-tx.result.conn.now in
    let last = c.apply.new.tx.conn.now in
    let end = c.commit.new.self.0 in
    let changes = TablesChanged (g.A.Alteration.alteration c.args.alteration.now) in
    let same : end ≡ c.conn-2-1.given.0 = search rules in
    subst (λ h. TransactionRan g.S.Store changes old h c.commit.result) same (record {
      done = done_by g.S.Store old begun last end c.transaction-tx.ensures.begun
          c.apply.ensures.within c.commit.ensures.survives changes c.in_ok-apply.ensures.makes
          c.commit.result c.commit.ensures.ok;
      undone = search rules;
      rests = search rules;
      clean = search rules;
      sound = λ _ opened. (c.schema.ensures.live opened).0;
      survives = survives_by g.S.Store old begun last end c.transaction-tx.ensures.begun
          c.apply.ensures.within c.commit.ensures.survives changes c.in_ok-apply.ensures.makes
          (changed_rows (g.A.Alteration.alteration c.args.alteration.now));
    })
