use Rattle.std.proofs.Common.{ap, map, subst, ◌==◌, ◌∙◌, filter, IsPermutation}
use Rattle.sqlite.specs.Held.{state}
use Rattle.office_tables.specs.declared.tables.owner.OwnerRow.{OwnerRow}
use Rattle.office_model.specs.Commands.{owner_in}
use Rattle.office_store.specs.Running.{Represents}
use Rattle.office_store.proofs.CommandLemmas.{shown, stays_by}
use Rattle.office_store.proofs.OwnerLemmas.{owner_read, owner_returned}
use Rattle.office_store.proofs.office.Office.owner.Goals as goal

pub returns-clause-reads : goal.returns-clause-reads
returns-clause-reads g c clean o now =
    let mid = c.ask.new.self in
    let stays = stays_by g.S.Store c.args.self.now mid c.in_ok-rows.ensures.leaves clean o now in
    let kept = stays (c.in_ok-rows.ensures.leaves.all_committed clean).0 in
    let rows = c.in_ok-rows.rows.items in
    let read = subst (λ e. IsPermutation (filter (λ (r : OwnerRow). r.exam == e) kept.held.owner)
    rows) c.get.ensures (c.in_ok-rows.ensures.rows clean o kept) in
    shown (owner_in c.args.exam o) o (Represents (state g.S.Store mid)) c.dept_in.result
    (owner_returned (owner_in c.args.exam o) c.dept_in.result
    (c.dept_in.ensures (owner_in c.args.exam o)
    (ap (map (λ (r : OwnerRow). r.dept)) c.deref.ensures.value
    ∙ owner_read kept.held o c.args.exam rows kept.represents read)))
    stays
