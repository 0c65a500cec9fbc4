use Rattle.std.proofs.Common.{refl, sym, subst, ap, ◌∙◌}
use Rattle.std.proofs.lemmas.List.{take_all}
use Rattle.sqlite.specs.Held.{state}
use Rattle.office_tables.specs.Alterations.{after_all}
use Rattle.office_tables.specs.TablesHeld.{HoldsTables}
use Rattle.office_tables.proofs.Inside.{within_then, within_same, clean_before, after_more}
use Rattle.office_tables.proofs.altering.EachAlteration.apply.Goals as goal

pub loop-alteration-init : goal.loop-alteration-init
loop-alteration-init g c =
    record { same = refl; makes = λ clean inside. (inside, λ t h. (h, λ was. was)); within = within_same _ }

pub loop-alteration-preserved : goal.loop-alteration-preserved
loop-alteration-preserved g c =
    let old = state g.S.Store c.args.tx.now.conn.now in
    let mid = state g.S.Store c.loop-alteration.tx.conn.now in
    let new = state g.S.Store c.apply.new.tx.conn.now in
    record {
      same = c.apply.ensures.same_reference ∙ c.loop-alteration.invariant.same;
      makes = λ clean inside.
          let clean_mid = clean_before mid new c.apply.ensures.within clean in
          let first = c.loop-alteration.invariant.makes clean_mid inside in
          let then = c.in_ok-apply.ensures.makes clean first.0 in (
            then.0,
            λ t h.
                let one = first.1 t h in
                let two = then.1 _ one.0 in (
                  subst (HoldsTables new.now)
                      (sym (after_more g.A.Alteration.alteration c.args.self.now.alterations.now
                      c.loop-alteration.alteration-index c.alteration-item.result t
                      c.loop-alteration-test.true c.alteration-item.is))
                      two.0,
                  λ was. two.1 (one.1 was),
                ),
          );
      within = within_then old mid new c.loop-alteration.invariant.within c.apply.ensures.within;
    }

pub returns-in_err-apply-clause-same_reference : goal.returns-in_err-apply-clause-same_reference
returns-in_err-apply-clause-same_reference g c = c.apply.ensures.same_reference
    ∙ c.loop-alteration.invariant.same

pub returns-in_err-apply-clause-within : goal.returns-in_err-apply-clause-within
returns-in_err-apply-clause-within g c = within_then _ _ _
    c.loop-alteration.invariant.within c.apply.ensures.within

pub returns-clause-same_reference : goal.returns-clause-same_reference
returns-clause-same_reference g c = c.loop-alteration.invariant.same

pub returns-clause-makes : goal.returns-clause-makes
returns-clause-makes g c clean inside =
    let made = c.loop-alteration.invariant.makes clean inside in (
      made.0,
      λ t h. let one = made.1 t h in (
        subst (HoldsTables (state g.S.Store c.loop-alteration.tx.conn.now).now)
            (ap (λ l. after_all g.A.Alteration.alteration l t)
            (take_all c.loop-alteration.alteration-index c.args.self.now.alterations.now
            c.loop-alteration-test.false))
            one.0,
        one.1,
      ),
    )

pub returns-clause-within : goal.returns-clause-within
returns-clause-within g c = c.loop-alteration.invariant.within
