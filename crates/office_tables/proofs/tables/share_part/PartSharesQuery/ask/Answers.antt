use Rattle.office_tables.proofs.AskLemmas.{leaves_tables, reads_rows}
use Rattle.office_tables.proofs.ShareTexts.{part_shares_query, part_shares_text, part_shares_means, part_shares_read}
use Rattle.office_tables.proofs.tables.share_part.PartSharesQuery.ask.Goals as goal

pub returns-clause-rows : goal.returns-clause-rows
returns-clause-rows g c =
    reads_rows g.S.Store part_shares_query part_shares_text part_shares_means c.args.conn.now
    c.stream.new.conn c.stream.result _ 4 _ _ part_shares_read
    c.stream.ensures.shown

pub returns-clause-leaves : goal.returns-clause-leaves
returns-clause-leaves g c =
    leaves_tables g.S.Store part_shares_query part_shares_text part_shares_means _ _ c.stream.ensures.leaves
