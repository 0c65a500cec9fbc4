use Rattle.office_tables.proofs.AskLemmas.{leaves_tables, reads_rows}
use Rattle.office_tables.proofs.JoinedTexts.{placements_of_query, placements_of_text, placements_of_means, placements_of_read}
use Rattle.office_tables.proofs.tables.placed.PlacementsOfQuery.ask.Goals as goal

pub returns-clause-rows : goal.returns-clause-rows
returns-clause-rows g c =
    reads_rows g.S.Store placements_of_query placements_of_text placements_of_means c.args.conn.now
    c.stream.new.conn c.stream.result _ 3 _ _ (λ db. placements_of_read db c.args.self.now.student)
    (rw c.params-to_sql.ensures at c.stream.ensures.shown)

pub returns-clause-leaves : goal.returns-clause-leaves
returns-clause-leaves g c =
    leaves_tables g.S.Store placements_of_query placements_of_text placements_of_means _ _ c.stream.ensures.leaves
