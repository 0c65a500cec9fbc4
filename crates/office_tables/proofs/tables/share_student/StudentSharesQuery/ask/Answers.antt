use Rattle.std.proofs.lemmas.Result.{IfOk-weaker}
use Rattle.sqlite.specs.Held.{state}
use Rattle.office_tables.proofs.AskLemmas.{leaves_tables, means_in}
use Rattle.office_tables.proofs.ShareTexts.{bare_shares_read, share_nights_query, share_nights_means, student_shares_query, student_shares_text, student_shares_means, student_shares_read}
use Rattle.office_tables.proofs.tables.share_student.StudentSharesQuery.ask.Goals as goal

pub returns-then-self-clause-rows : goal.returns-then-self-clause-rows
returns-then-self-clause-rows g c clean t holds =
    let old = state g.S.Store c.args.conn.now in
    IfOk-weaker c.stream.result _ _
    (λ found is none. bare_shares_read old.now t holds (none c.if-self.true) found.items is)
    (c.stream.ensures.shown _ (means_in student_shares_query student_shares_text
    student_shares_means old old t holds) clean)

pub returns-then-self-clause-leaves : goal.returns-then-self-clause-leaves
returns-then-self-clause-leaves g c =
    leaves_tables g.S.Store student_shares_query student_shares_text student_shares_means _ _ c.stream.ensures.leaves

pub returns-clause-rows : goal.returns-clause-rows
returns-clause-rows g c clean t holds =
    let old = state g.S.Store c.args.conn.now in
    IfOk-weaker c.stream_with_nights.result _ _
    (λ found is none. student_shares_read old.now t holds found.items is)
    (c.stream_with_nights.ensures.shown student_shares_query share_nights_query student_shares_means
    share_nights_means clean t holds)

pub returns-clause-leaves : goal.returns-clause-leaves
returns-clause-leaves g c =
    c.stream_with_nights.ensures.leaves student_shares_query share_nights_query student_shares_means
    share_nights_means
