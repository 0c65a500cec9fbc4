use Rattle.std.proofs.Common.{refl, sym, ◌∙◌}
use Rattle.office_requests.specs.Table.{adds_all}
use Rattle.office_requests.proofs.AddLemmas.{adds_more}
use Rattle.office_requests.proofs.routes.add_all.Goals as goal

pub loop-route-init : goal.loop-route-init
unfolding adds_all
loop-route-init c = refl

pub loop-route-preserved : goal.loop-route-preserved
loop-route-preserved c =
    c.in_ok-add.ensures
    ∙ sym (adds_more c.args.routes.now c.loop-route.route-index _ c.args.router.now
    c.loop-route.router c.loop-route-test.true c.loop-route.invariant)
