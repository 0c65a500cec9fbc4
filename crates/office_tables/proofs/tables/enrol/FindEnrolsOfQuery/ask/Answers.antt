use Rattle.std.proofs.lemmas.Result.{IfOk-weaker}
use Rattle.sqlite.specs.Held.{state}
use Rattle.office_tables.proofs.AskLemmas.{leaves_tables, means_in}
use Rattle.office_tables.proofs.EnrolTexts.{enrols_of_query, enrols_of_text, enrols_of_means, enrols_found}
use Rattle.office_tables.proofs.tables.enrol.FindEnrolsOfQuery.ask.Goals as goal

pub returns-clause-rows : goal.returns-clause-rows
returns-clause-rows g c clean t holds =
    let old = state g.S.Store c.args.conn.now in
    IfOk-weaker c.stream_found.result _ _ (enrols_found old.now c.args.self.now.student t holds)
    (rw c.params-to_sql.ensures at (c.stream_found.ensures.shown _
    (means_in enrols_of_query enrols_of_text enrols_of_means old old t holds) clean))

pub returns-clause-leaves : goal.returns-clause-leaves
returns-clause-leaves g c =
    leaves_tables g.S.Store enrols_of_query enrols_of_text enrols_of_means _ _ c.stream_found.ensures.leaves
