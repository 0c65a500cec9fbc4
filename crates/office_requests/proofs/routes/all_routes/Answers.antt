use Rattle.std.proofs.Common.{refl}
use Rattle.office_requests.specs.Table.{table}
use Rattle.office_requests.proofs.routes.all_routes.Goals as goal

pub returns : goal.returns
unfolding table
returns c = rw (c.in_ok-add_all.ensures, c.new-router.ensures) refl
