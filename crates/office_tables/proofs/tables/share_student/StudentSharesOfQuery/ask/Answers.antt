use Rattle.std.proofs.Common.{rules, ap, filter, map, subst, sym, ◌∙◌, ◌==◌, IsPermutation}
use Rattle.sqlite.specs.Held.{state}
use Rattle.office_tables.specs.declared.joined_share.JoinedShare.{JoinedShare}
use Rattle.office_tables.specs.declared.tables.share_student.StudentShareRow.{StudentShareRow}
use Rattle.office_tables.specs.Tables.ShareStudent.{share_shown}
use Rattle.office_tables.proofs.AskLemmas.{leaves_after, means_in}
use Rattle.office_tables.proofs.OrderLemmas.{typed}
use Rattle.office_tables.proofs.ShareTexts.{student_shares_of_query, student_shares_of_text, student_shares_of_means, student_shares_of_read}
use Rattle.office_tables.proofs.tables.share_student.StudentSharesOfQuery.ask.Goals as goal

abbrev row_in : JoinedShare → StudentShareRow
row_in j = j.row

pub returns-clause-rows : goal.returns-clause-rows
returns-clause-rows g c clean t holds =
    let old = state g.S.Store c.args.conn.now in
    let joined = c.in_ok-joined.joined.items in
    let found = rw c.params-to_sql.ensures at (c.in_ok-joined.ensures.shown _
    (means_in student_shares_of_query student_shares_of_text student_shares_of_means old old t
    holds) clean) in
    let made = c.in_ok-joined_rows.ensures ∙ ap (map row_in) c.deref.ensures.value in
    subst (IsPermutation (filter (λ r. r.student == c.args.self.now.student) t.share_student)) (sym made)
    (student_shares_of_read old.now c.args.self.now.student t holds (map row_in joined)
    (typed share_shown row_in 5 _ student_shares_of_query old.now.trees joined found)).0

pub returns-clause-leaves : goal.returns-clause-leaves
returns-clause-leaves g c =
    leaves_after g.S.Store student_shares_of_query student_shares_of_text
    student_shares_of_means _ _ c.in_ok-joined.ensures.leaves (λ _ p. p)

pub returns-in_err-joined-clause-leaves : goal.returns-in_err-joined-clause-leaves
returns-in_err-joined-clause-leaves g c =
    leaves_after g.S.Store student_shares_of_query student_shares_of_text
    student_shares_of_means _ _ c.in_err-joined.ensures.leaves (λ P none. search rules)

pub returns-in_err-joined_rows-clause-leaves : goal.returns-in_err-joined_rows-clause-leaves
returns-in_err-joined_rows-clause-leaves g c =
    leaves_after g.S.Store student_shares_of_query student_shares_of_text
    student_shares_of_means _ _ c.in_ok-joined.ensures.leaves (λ P none. search rules)
