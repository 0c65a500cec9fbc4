use Rattle.office_tables.proofs.AskLemmas.{leaves_tables, reads_rows}
use Rattle.office_tables.proofs.SeatTexts.{seats_of_query, seats_of_text, seats_of_means, seats_of_read}
use Rattle.office_tables.proofs.tables.seat.SeatsOfQuery.ask.Goals as goal

pub returns-clause-rows : goal.returns-clause-rows
returns-clause-rows g c =
    reads_rows g.S.Store seats_of_query seats_of_text seats_of_means c.args.conn.now
    c.stream.new.conn c.stream.result _ 5 _ _ (λ db. seats_of_read db c.args.self.now.student)
    (rw c.params-to_sql.ensures at c.stream.ensures.shown)

pub returns-clause-leaves : goal.returns-clause-leaves
returns-clause-leaves g c =
    leaves_tables g.S.Store seats_of_query seats_of_text seats_of_means _ _ c.stream.ensures.leaves
