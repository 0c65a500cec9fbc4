use Rattle.office_store.proofs.PublishLemmas.{shares_made}
use Rattle.office_store.proofs.StepLemmas.{changes_as, changes_then}
use Rattle.office_store.proofs.putting.put_shares.Goals as goal

pub returns-clause-makes : goal.returns-clause-makes
returns-clause-makes g c =
    let new = c.args.new.now in
    changes_as g.S.Store c.args.tx.now.conn.now c.apply-2.new.tx.conn.now c.apply-2.result
    (shares_made new c.deref.ensures.value c.deref-2.ensures.value c.deref-3.ensures.value)
    (changes_then g.S.Store _ _ c.args.tx.now.conn.now c.apply.new.tx.conn.now
    c.apply-2.new.tx.conn.now c.apply-2.result c.in_ok-apply.ensures.makes c.apply-2.ensures.within
    c.apply-2.ensures.makes)
