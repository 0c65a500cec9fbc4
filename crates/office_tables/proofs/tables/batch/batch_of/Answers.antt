use Rattle.std.proofs.Common.{◌<◌, ◌↔◌, rules, subst}
use Rattle.std.specs.Prelude.{IsSome}
use Rattle.sqlite.specs.Held.{state}
use Rattle.office_tables.specs.declared.version.Version.TheVariants.{Two}
use Rattle.office_tables.proofs.AskLemmas.{leaves_in, means_at}
use Rattle.office_tables.proofs.BatchTexts.{batch_of_query, batch_of_text, batch_of_means, batch_of_read}
use Rattle.office_tables.proofs.tables.batch.batch_of.Goals as goal

pub returns-clause-row : goal.returns-clause-row
returns-clause-row g c version clean t represents =
    let old = state g.S.Store c.args.conn.now in
    let means =
    means_at version batch_of_query batch_of_text (batch_of_means version) old t represents in
    batch_of_read version old.now c.args.no t represents c.in_ok-found.found.items
    c.pop.new.self.items
    c.pop.result (rw c.params-to_sql.ensures at (c.in_ok-found.ensures.shown _ means clean))
    c.pop.ensures.items
    (subst (λ n. IsSome c.pop.result ↔ (0 < n)) c.in_ok-found.found.ok.0 c.pop.ensures.variant)

pub returns-clause-leaves : goal.returns-clause-leaves
returns-clause-leaves g c version =
    leaves_in version g.S.Store batch_of_query batch_of_text (batch_of_means version)
    (batch_of_means Two) _ _ c.in_ok-found.ensures.leaves (λ P p. p)

pub returns-in_err-found-clause-leaves : goal.returns-in_err-found-clause-leaves
returns-in_err-found-clause-leaves g c version =
    leaves_in version g.S.Store batch_of_query batch_of_text (batch_of_means version)
    (batch_of_means Two) _ _ c.in_err-found.ensures.leaves (λ P none. search rules)
