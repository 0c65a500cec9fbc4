use Rattle.std.proofs.lemmas.Result.{on_ok_weaker}
use Rattle.sqlite.specs.Held.{state}
use Rattle.office_tables.proofs.Inside.{clean_before}
use Rattle.office_tables.proofs.altering.BothAlteration.apply.Goals as goal

pub returns-clause-makes : goal.returns-clause-makes
returns-clause-makes g c clean inside =
    let mid = state g.S.Store c.apply.new.tx.conn.now in
    let new = state g.S.Store c.apply-2.new.tx.conn.now in
    let first = c.in_ok-apply.ensures.makes (clean_before mid new c.apply-2.ensures.within clean)
    inside in
    on_ok_weaker c.apply-2.result (λ made. (
      made.0,
      λ t h.
          let one = first.1 t h in
          let two = made.1 _ one.0 in
          (two.0, λ was. two.1 (one.1 was)),
    ))
    (c.apply-2.ensures.makes clean first.0)
