use Rattle.std.proofs.lemmas.Grind.{common_steps}
use Rattle.std.proofs.Common.{subst, ◌∙◌, ◌+◌, drop, arith}
use Rattle.std.proofs.lemmas.List.{at_drop_more, drop_all}
use Rattle.sqlite.specs.Held.{state}
use Rattle.office_tables.proofs.Creates.{Creating, created_last, created_next}
use Rattle.office_tables.proofs.Inside.{within_then, within_same, clean_before}
use Rattle.office_tables.proofs.creation.create.Goals as goal

pub loop-text-init : goal.loop-text-init
loop-text-init g c = grind (arith, common_steps, within_same)

pub loop-text-preserved : goal.loop-text-preserved
loop-text-preserved g c =
    let old = state g.S.Store c.args.tx.now.conn.now in
    let mid = state g.S.Store c.loop-text.tx.conn.now in
    let new = state g.S.Store c.run.new.tx.conn.now in
    let all = c.args.texts.now in
    let at = c.loop-text.text-index in
    record {
      same = c.run.ensures.same_reference ∙ c.loop-text.invariant.same;
      makes = λ clean inside.
          let first = c.loop-text.invariant.makes
          (clean_before mid new c.run.ensures.within clean) inside in
          created_next all (drop (at + 1) all) _ old mid new
          (subst (λ left. Creating all left old mid)
          (at_drop_more (λ l. l) all at _ c.loop-text-test.true) first)
          (c.in_ok-run.ensures.ran clean first.0);
      within = within_then old mid new c.loop-text.invariant.within c.run.ensures.within;
    }

pub returns-in_err-run-clause-same_reference : goal.returns-in_err-run-clause-same_reference
returns-in_err-run-clause-same_reference g c = c.run.ensures.same_reference
    ∙ c.loop-text.invariant.same

pub returns-in_err-run-clause-within : goal.returns-in_err-run-clause-within
returns-in_err-run-clause-within g c =
    within_then _ _ _ c.loop-text.invariant.within c.run.ensures.within

pub returns-clause-same_reference : goal.returns-clause-same_reference
returns-clause-same_reference g c = c.loop-text.invariant.same

pub returns-clause-makes : goal.returns-clause-makes
returns-clause-makes g c schema tables trees means clean inside =
    let old = state g.S.Store c.args.tx.now.conn.now in
    let now = state g.S.Store c.loop-text.tx.conn.now in
    let all = c.args.texts.now in
    created_last all old now
    (subst (λ left. Creating all left old now)
    (drop_all c.loop-text.text-index all c.loop-text-test.false)
    (c.loop-text.invariant.makes clean inside))
    schema tables trees means

pub returns-clause-within : goal.returns-clause-within
returns-clause-within g c = c.loop-text.invariant.within
