use Rattle.std.proofs.Common.{ap, true, ◌∷◌, List, ℕ, subst, sym, []}
use Rattle.office_tables.specs.Steps.{Changes}
use Rattle.office_store.specs.PublicationChanges.{mark_put}
use Rattle.office_store.proofs.StepLemmas.{changes_as}
use Rattle.office_store.proofs.putting.put_mark.Goals as goal

pub returns-clause-makes : goal.returns-clause-makes
returns-clause-makes g c =
    let old = c.args.tx.now.conn.now in
    let new = c.apply.new.tx.conn.now in
    subst (λ text. Changes g.S.Store (mark_put text) old new c.apply.result) (sym c.in-Some.is)
    (changes_as g.S.Store old new c.apply.result
    (λ t. ap (λ (text : List ℕ). record t { meta = record { published = true; instance = text } ∷ [] })
    c.deref.ensures.value) c.apply.ensures.makes)
