use Rattle.office_tables.proofs.AskLemmas.{leaves_tables, reads_rows}
use Rattle.office_tables.proofs.OwnerTexts.{owners_of_query, owners_of_text, owners_of_means, owners_of_read}
use Rattle.office_tables.proofs.tables.owner.OwnersOfQuery.ask.Goals as goal

pub returns-clause-rows : goal.returns-clause-rows
returns-clause-rows g c =
    reads_rows g.S.Store owners_of_query owners_of_text owners_of_means c.args.conn.now
    c.stream.new.conn c.stream.result _ 2 _ _ (λ db. owners_of_read db c.args.self.now.exam)
    (rw c.params-to_sql.ensures at c.stream.ensures.shown)

pub returns-clause-leaves : goal.returns-clause-leaves
returns-clause-leaves g c =
    leaves_tables g.S.Store owners_of_query owners_of_text owners_of_means _ _ c.stream.ensures.leaves
