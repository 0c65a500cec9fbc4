use Rattle.std.proofs.lemmas.Grind.{common_steps}
use Rattle.std.proofs.Common.{◌<◌, subst, sym, ◌∙◌, arith}
use Rattle.office_tables.proofs.JoinLemmas.{all_joined, differ, next}
use Rattle.office_tables.proofs.nights.with_nights.Goals as goal

pub rows-init : goal.rows-init
rows-init g c = grind (arith, common_steps)

pub rows-preserved : goal.rows-preserved
rows-preserved g c = grind (arith, common_steps, next)

pub returns-then-night-number : goal.returns-then-night-number
returns-then-night-number g c =
    let within = subst (λ n. c.rows.at < n) c.if-rows-nights.false c.rows-test.true in
    differ g.R.HasNight.main_columns g.R.HasNight.side_columns g.R.HasNight.number_in
    c.args.rows.now c.args.nights.now c.rows.at c.index-rows-at.result _ c.rows-test.true within
    c.index-rows-at.is (λ same. c.if-night-number.true (same ∙ sym c.number.ensures))

pub returns : goal.returns
returns g c = grind (arith, common_steps, all_joined)
