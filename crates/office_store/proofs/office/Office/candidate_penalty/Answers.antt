use Rattle.std.proofs.Common.{◌==◌, filter, subst, IsPermutation}
use Rattle.sqlite.specs.Held.{state}
use Rattle.office_tables.specs.declared.tables.share_student.StudentShareRow.{StudentShareRow}
use Rattle.office_store.specs.OfficeRows.{student_rows_in}
use Rattle.office_model.specs.Shown.{shown_penalty}
use Rattle.office_model.specs.Views.{view_of}
use Rattle.office_store.specs.Running.{Represents}
use Rattle.office_store.proofs.CommandLemmas.{shown, stays_by}
use Rattle.office_store.proofs.ViewLemmas.{candidate_share_of, candidate_shares_read, penalty_returned}
use Rattle.office_store.proofs.office.Office.candidate_penalty.Goals as goal

pub returns-clause-reads : goal.returns-clause-reads
returns-clause-reads g c clean o now =
    let mid = c.ask.new.self in
    let stays = stays_by g.S.Store c.args.self.now mid c.in_ok-rows.ensures.leaves clean o now in
    let kept = stays (c.in_ok-rows.ensures.leaves.all_committed clean).0 in
    let rows = c.in_ok-rows.rows.items in
    let penalty = shown_penalty (view_of c.args.student o) in
    shown penalty o (Represents (state g.S.Store mid)) c.checked_share.result
    (penalty_returned c.deref.ensures.value
    (candidate_share_of o c.args.student kept.office rows
    (subst (λ n. IsPermutation (filter (λ (row : StudentShareRow). row.student == n)
    (student_rows_in o)) rows) c.get-number.ensures.number
    (candidate_shares_read kept.held o c.get-number.result rows kept.represents kept.sound
    (c.in_ok-rows.ensures.rows clean o kept))))
    c.checked_share.ensures.none c.checked_share.ensures.one)
    stays
