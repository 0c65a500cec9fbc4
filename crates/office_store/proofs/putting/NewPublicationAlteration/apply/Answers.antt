use Rattle.office_store.specs.PublicationChanges.{places_put, shares_put}
use Rattle.office_store.proofs.StepLemmas.{changes_then}
use Rattle.office_store.proofs.putting.NewPublicationAlteration.apply.Goals as goal

pub returns-clause-makes : goal.returns-clause-makes
returns-clause-makes g c =
    let new = c.args.self.now in
    changes_then g.S.Store (places_put new) (shares_put new) c.args.tx.now.conn.now
    c.put_places.new.tx.conn.now c.put_shares.new.tx.conn.now c.put_shares.result
    c.in_ok-put_places.ensures.makes c.put_shares.ensures.within c.put_shares.ensures.makes
