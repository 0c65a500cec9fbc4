use Rattle.std.proofs.Common.{◌≡◌, take, map}
use Rattle.office_requests.specs.Table.{adds_all}
use Rattle.office_requests.proofs.routes.add_all.Given as goal

abbrev pub invariant-loop-route : goal.invariant-loop-route
invariant-loop-route l =
    l.router ≡ adds_all (map (λ route. (route.0.now, route.1)) (take l.route-index l.routes))
    l.initial.router
