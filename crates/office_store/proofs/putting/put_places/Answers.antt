use Rattle.std.proofs.Common.{Ok}
use Rattle.office_store.proofs.PublishLemmas.{places_made}
use Rattle.office_store.proofs.StepLemmas.{changes_as, changes_then}
use Rattle.office_store.proofs.putting.put_places.Goals as goal

pub returns-clause-makes : goal.returns-clause-makes
returns-clause-makes g c =
    let new = c.args.new.now in
    changes_as g.S.Store c.args.tx.now.conn.now c.apply-2.new.tx.conn.now c.apply-2.result
    (places_made new c.deref.ensures.value c.deref-2.ensures.value c.deref-3.ensures.value
    c.deref-4.ensures.value)
    (changes_then g.S.Store _ _ c.args.tx.now.conn.now c.apply.new.tx.conn.now
    c.apply-2.new.tx.conn.now c.apply-2.result
    (changes_then g.S.Store _ _ c.args.tx.now.conn.now c.put_mark.new.tx.conn.now
    c.apply.new.tx.conn.now (Ok tt) c.in_ok-put_mark.ensures.makes
    c.apply.ensures.within c.in_ok-apply.ensures.makes)
    c.apply-2.ensures.within c.apply-2.ensures.makes)
