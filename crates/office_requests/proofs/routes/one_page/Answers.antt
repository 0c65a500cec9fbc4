use Rattle.office_requests.proofs.OnePageLemmas.{one_page}
use Rattle.office_requests.proofs.routes.one_page.Goals as goal

pub returns : goal.returns
returns c = one_page
