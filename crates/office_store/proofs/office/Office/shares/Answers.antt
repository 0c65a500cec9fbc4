use Rattle.std.proofs.Common.{Ok, None}
use Rattle.sqlite.specs.Held.{state}
use Rattle.office_store.specs.Publications.{shares_in}
use Rattle.office_store.specs.Running.{Represents}
use Rattle.office_store.proofs.CommandLemmas.{stays_by, returns_value}
use Rattle.office_store.proofs.PublishedReadLemmas.{adds_up_in, none_shared, shares_returned}
use Rattle.office_store.proofs.office.Office.shares.Goals as goal

pub returns-in_default-clause-reads : goal.returns-in_default-clause-reads
returns-in_default-clause-reads g c =
    returns_value c.self.view_is c.self.invariant.1 c.in_ok-found.ensures.leaves shares_in (Ok None)
    (λ k o kept is. none_shared o _ c.in_default.is is.session)

pub returns-clause-reads : goal.returns-clause-reads
returns-clause-reads g c =
    returns_value c.self.view_is c.self.invariant.1 c.in_ok-found.ensures.leaves shares_in c.shared_of.result
    (λ k o kept is. shares_returned o c.in-Some.is kept.office is.session
    (c.in_ok-found.ensures.rows k o kept) c.shared_of.result c.shared_of.ensures.meaning)

pub returns-clause-add_up : goal.returns-clause-add_up
returns-clause-add_up g c clean o now =
    let stays = stays_by g.S.Store c.args.self.now c.share_rows.new.self
    c.in_ok-found.ensures.leaves clean o now in
    adds_up_in o (Represents (state g.S.Store c.share_rows.new.self)) c.shared_of.result
    (stays (c.in_ok-found.ensures.leaves.all_committed clean).0).office
    (returns-clause-reads g c clean o now)
